-- Just after the opening: every member is Working and nothing of the transaction was sent or marked before. Every members and PC can be opened.
use Prim.Native.Nat.{ℕ, zero, suc, ◌≤◌, ◌<◌}
use mathlib.Core.Path.{◌≡◌, refl, sym, ap, ap₂, ◌∙◌, subst}
use mathlib.Core.Logic.{⊎_elim}
use mathlib.Core.Bool.{Bool, true, false, cond, not, ◌||◌, and-false, true≢false}
use mathlib.Core.List.{List, [], ◌∷◌, ◌++◌}
use mathlib.Core.Option.{none, some, some-injective, none-ne-some}
use native.Mathlib.Omega.{arith}
use lib.ListN.{take, get_or}
use lib.Dec.{T, eqb}
use borrow.Author.Tests.{eqb-true, ne_eqb, le-leb, not-false}
use Rattle.codec.specs.Lists.{any, every, first, same, only_if}
use Rattle.codec.specs.Sets.{member, empty, listed, part}
use Rattle.codec.specs.Laws.Tests.{true_of, every_at, lt_or_le}
use Rattle.codec.specs.Laws.Members.{none_in}
use Rattle.site.specs.Cohort.{Cohort}
use Rattle.site.specs.Participant.{ParticipantPhase}
use Rattle.site.specs.Step.{prepare, messages, message_kind, Effect, append, force, enter, send}
use Rattle.joint.specs.State.{Run, fresh, opened, names, at_transaction, perform_all}
use Rattle.joint.specs.Event.{Event, opening, marking, event_length, event_of, ranges, bytes_in_range, cut_in_range, cut_at, cut_of, Parsed, parse}
use Rattle.joint.specs.Refusals.{is_down, refusals}
use Rattle.joint.specs.Plan.{Plan, opened_as, plan}
use Rattle.joint.specs.Run.{Result, refuse, carry, carry_plan, carry_unless, event_parsed, event, after}
use Rattle.joint.specs.Safety.{Moment, history, sends, is_sending, accepts, is_marking}
use Rattle.joint.specs.Bill.{opens_with}
use Rattle.joint.proofs.Base.Booleans.{is_false}
use Rattle.joint.proofs.Base.Updates.{update_same}
use Rattle.joint.proofs.Base.Ranges.{InRange, only-some, parse_range}
use Rattle.joint.proofs.Base.Bytes.{kind_again}
use Rattle.joint.proofs.Base.Plans.{not_struck}
use Rattle.joint.proofs.Base.History.{Accepted, EventCase, refused, whole, cut, event_case, by_events, after_snoc}
use Rattle.joint.proofs.Base.Recorded.{messages-happened}
use Rattle.joint.proofs.Base.Looked.{bytes_marking, event-marked}
use Rattle.joint.proofs.View.View.{view}
use Rattle.joint.proofs.View.Cohorts.{event-leaves}
use Rattle.joint.proofs.View.Events.{was_opened, all_up, members-up}
use Rattle.joint.proofs.Safety.Sets.{part_byte}
use Rattle.joint.proofs.Safety.Invariant as inv
use Rattle.joint.proofs.Safety.Tracked.{seen_after, small, tracked}
use Rattle.joint.proofs.Clean.Stages as stage
use Rattle.joint.proofs.Clean.Stages.{initial, Stands}
use Rattle.joint.proofs.Clean.Steps.{kind_small, At}

-- what is opened stays opened
pub opened_later : (t : ℕ) (es : List (List ℕ)) (e : List ℕ) → opened (after fresh es) t ≡ true → opened (after fresh (es ++ (e ∷ []))) t ≡ true
unfolding opened
opened_later t es e o =
    let x = tracked t es in
    ap (λ (r : Run). not (empty (r.transaction t).cohort.members)) (after_snoc fresh es e)
    ∙ ap (λ (g : Cohort). not (empty g.members)) (event-leaves t (after fresh es) e (small t es x.standing x.inv) o) ∙ o

-- ---- before its opening nothing of it is marked

module _ (t p : ℕ) where
  mark-opened : (r : Run) (e : List ℕ) {x : Parsed} {q : Plan} → Accepted r e x q → same (take 3 e) (8 ∷ t ∷ p ∷ []) ≡ true → opened r t ≡ true
  unfolding refusals
  mark-opened r e {x} a bytes =
      let passed : first (refusals r (marking t p)) ≡ 0 = rw (bytes_marking e x a.parsed t p bytes) at a.passed in
      was_opened r t _ passed

  mark_case : (r : Run) (e : List ℕ) {z : Result} → EventCase r e z → eqb z.answer 0 ≡ true → same (take 3 e) (8 ∷ t ∷ p ∷ []) ≡ true → opened r t ≡ true
  unfolding refuse
  mark_case r e (refused n) h bytes = absurd (omega (arith, eqb-true (suc n) 0 h))
  mark_case r e (whole a c) h bytes = mark-opened r e a bytes
  mark_case r e (cut n k a c b) h bytes = mark-opened r e a bytes

  is_mark_lem : (r : Run) (e : List ℕ) → T (is_marking t p (r, e)) → opened r t ≡ true
  unfolding is_marking accepts
  is_mark_lem r e k = let h = true_of _ k in mark_case r e (event_case r e) (every_at _ h 1) (every_at _ h 0)

  unopened-before : (es : List (List ℕ)) (e : List ℕ) → opened (after fresh (es ++ (e ∷ []))) t ≡ false → opened (after fresh es) t ≡ false
  unopened-before es e h = is_false (opened (after fresh es) t) (λ k. true≢false (sym (opened_later t es e (true_of _ k)) ∙ h))

  pub unopened_unmarked : (es : List (List ℕ)) → opened (after fresh es) t ≡ false → ((after fresh es).transaction t).marked p ≡ false
  unopened_unmarked =
      by_events (λ es. opened (after fresh es) t ≡ false → ((after fresh es).transaction t).marked p ≡ false) (λ h. unfold after fresh in refl)
      (λ es e ih h.
      let before = unopened-before es e h in
      ap (λ (r : Run). (r.transaction t).marked p) (after_snoc fresh es e) ∙ event-marked t p (after fresh es) e
      ∙ ap₂ ◌||◌ (ih before) (is_false (is_marking t p (after fresh es, e)) (λ k. true≢false (sym (is_mark_lem (after fresh es) e k) ∙ before))))

-- ---- nor sent

-- no message has a kind above 7
no_kind : (t p k : ℕ) → 8 ≤ k → (ms : List Moment) → any (is_sending t p k) ms ≡ false
unfolding any
no_kind t p k h [] = refl
no_kind t p k h (m ∷ ms) = ap₂ ◌||◌ here (no_kind t p k h ms)
  where
    none : (e : Effect) → sends k p e ≡ false
    none (append j fs) = unfold sends in refl
    none force = unfold sends in refl
    none (enter o) = unfold sends in refl
    none (send m q) = unfold sends in rw (ne_eqb k (message_kind m) (λ e. omega (arith, e, kind_small m, h))) refl

    here : is_sending t p k m ≡ false
    here = unfold is_sending every in (rw (none m.act.effect) (and-false (eqb m.act.transaction t)))

-- one that is no member has no message
module _ (t : ℕ) (es : List (List ℕ)) (n : ℕ) (out : member (suc n) ((after fresh es).transaction t).cohort.members ≡ false) where
  stranger : inv.Stranger n (seen_after t es)
  unfolding view
  stranger = subst (λ (b : Bool). inv.Place b t n ((tracked t es).inv.mid.status n) (seen_after t es)) out ((tracked t es).inv.mid.stands n)

  stranger_unsent : (k : ℕ) → ((after fresh es).transaction t).sent (suc n) k ≡ false
  unfolding view
  stranger_unsent k =
      ⊎_elim (λ h. ap (((after fresh es).transaction t).sent (suc n)) (sym (kind_again k (omega (arith, h)))) ∙ stranger.sent (get_or messages k prepare))
      (λ h. messages-happened es t (suc n) k ∙ no_kind t (suc n) k h (history fresh es)) (lt_or_le k 8)

unopened_unsent : (t : ℕ) (es : List (List ℕ)) → opened (after fresh es) t ≡ false → (n k : ℕ) → ((after fresh es).transaction t).sent (suc n) k ≡ false
unfolding opened empty
unopened_unsent t es h n =
    stranger_unsent t es n (ap (member (suc n)) (eqb-true _ 0 (not-false _ h)) ∙ none_in (suc n))

-- ---- the opening

module _ (r : Run) (t : ℕ) (g : Cohort) where
  -- what an accepted opening is
  pub record Opening : Type 0 where
    pub run : (event r (opens_with t g)).run ≡ at_transaction t (opened_as g) r
    pub acts : (event r (opens_with t g)).acts ≡ []
    pub passed : first (refusals r (opening t g.members g.presume_commit)) ≡ 0
    pub range : InRange (opening t g.members g.presume_commit)

  read_as : (x : Parsed) → parse (opens_with t g) ≡ some x → x ≡ record { event = opening t g.members g.presume_commit; cut = none }
  unfolding opens_with parse event_of cut_of cut_at
  read_as x h = sym (only-some _ _ x h).1

  opening_case : {z : Result} → EventCase r (opens_with t g) z → event r (opens_with t g) ≡ z → z.answer ≡ 0 → Opening
  unfolding refuse carry plan perform_all
  opening_case (refused n) e a = absurd (omega (arith, a))
  opening_case (whole {x} {p} a c) e q =
      let is = ap (λ (y : Parsed). y.event) (read_as x a.parsed) in
      let planned : plan r (opening t g.members g.presume_commit) ≡ some p = rw is at a.planned in
      let made = some-injective _ _ planned in
      record {
        run = ap (λ (z : Result). z.run) e ∙ ap (λ (p : Plan). p.settle (perform_all p.site p.acts r)) (sym made);
        acts = ap (λ (z : Result). z.acts) e ∙ ap (λ (p : Plan). p.acts) (sym made);
        passed = rw is at a.passed;
        range = rw is at (parse_range (opens_with t g) x a.parsed);
      }
  opening_case (cut {x} n k a c b) e q = absurd (none-ne-some _ (sym (ap (λ (y : Parsed). y.cut) (read_as x a.parsed)) ∙ c))

  pub is_opening : T (accepts r (opens_with t g)) → Opening
  unfolding accepts
  is_opening k = opening_case (event_case r (opens_with t g)) refl (eqb-true _ 0 (true_of _ k))

module _ (before : List (List ℕ)) (t : ℕ) (g : Cohort) (o : Opening (after fresh before) t g) where
  abbrev r : Run
  r = after fresh before

  -- its members are a byte and not 0, and PC is a part of them
  pub opened_small : g.members < 256
  opened_small = o.range.1

  pub opened-few : g.presume_commit < 256
  opened-few = part_byte g.presume_commit g.members o.range.3

  pub opened_someone : empty g.members ≡ false
  unfolding empty
  opened_someone = ne_eqb g.members 0 (λ e. omega (arith, e, o.range.2))

  pub unopened_yet : opened (after fresh before) t ≡ false
  unfolding refusals
  unopened_yet = (not_struck 1 _ _ o.passed).0

  pub opened-transaction : (event (after fresh before) (opens_with t g)).run.transaction t ≡ opened_as g ((after fresh before).transaction t)
  unfolding at_transaction
  opened-transaction = ap (λ (y : Run). y.transaction t) o.run ∙ update_same t (opened_as g) r.transaction

  opened_stands : Stands g (λ _. stage.idle) (λ p k. false) (opened_as g ((after fresh before).transaction t))
  unfolding opened_as any
  opened_stands =
      record {
        cohort = refl;
        leads = initial (λ n m. refl);
        out = refl;
        edge = λ n m.
            record {
              phase = ap (λ (b : Bool). cond b ParticipantPhase.working ((r.transaction t).participant (suc n))) (true_of (member (suc n) g.members) m);
              unmarked = unopened_unmarked t (suc n) before unopened_yet;
              sent = unopened_unsent t before unopened_yet n;
              delivered = λ k. refl;
              entered = λ k. absurd k;
            };
      }

  named-up : (s : ℕ) → T (names g.members s) → ((after fresh before).site s).up ≡ true
  unfolding refusals
  named-up s k = go s k
    where
      ups : ((r.site 0).up ≡ true) × (any (is_down r) (listed g.members) ≡ false)
      ups = all_up r (listed g.members) (not_struck 1 _ _ (unfold refusals in o.passed)).1

      go : (s : ℕ) → T (names g.members s) → (r.site s).up ≡ true
      go zero k = ups.0
      go (suc n) k = members-up r g.members opened_small ups.1 n (true_of _ k)

  pub start : At t g (λ _. stage.idle) (λ p k. false) (event (after fresh before) (opens_with t g)).run
  unfolding at_transaction
  start =
      record {
        stands = subst (Stands g (λ _. stage.idle) (λ p k. false)) (sym opened-transaction) opened_stands;
        up = λ s k. ap (λ (y : Run). (y.site s).up) o.run ∙ named-up s k;
      }

-- ---- an event that no refusal strikes is accepted

pub is_taken : (r : Run) (b : List ℕ) (e : Event) → parse b ≡ some (record { event = e; cut = none }) → first (refusals r e) ≡ 0 → (p : Plan) → plan r e ≡ some p → accepts r b ≡ true
unfolding accepts event event_parsed carry_unless carry_plan carry
is_taken r b e parsed passed p planned = rw (parsed, passed, planned) refl

-- ---- every members and PC can be opened

module _ (t M C : ℕ) (low : t < 8) (small : M < 256) (someone : empty M ≡ false) (is_part : part C M ≡ true) where
  abbrev g : Cohort
  g = record { members = M; presume_commit = C }

  has_one : 1 ≤ M
  unfolding empty
  has_one = go M someone
    where
      go : (m : ℕ) → eqb m 0 ≡ false → 1 ≤ m
      go zero e = absurd (true≢false e)
      go (suc m) e = omega arith

  opening_read : parse (opens_with t g) ≡ some (record { event = opening t M C; cut = none })
  unfolding opens_with parse event_length bytes_in_range ranges cut_in_range cut_of cut_at event_of every only_if any
  opening_read = rw (le-leb t 7 (omega (arith, low)), le-leb 1 M has_one, le-leb M 255 (omega (arith, small)), le-leb C 255 (omega (arith, part_byte C M is_part)), is_part) refl

  all_are_up : (l : List ℕ) → any (is_down fresh) l ≡ false
  unfolding any is_down fresh
  all_are_up [] = refl
  all_are_up (s ∷ l) = all_are_up l

  opening_passes : first (refusals fresh (opening t M C)) ≡ 0
  unfolding refusals opened first
  opening_passes = rw (all_are_up (0 ∷ listed M)) (unfold fresh empty in refl)

  pub opening-taken : accepts fresh (opens_with t (record { members = M; presume_commit = C })) ≡ true
  unfolding plan
  opening-taken = is_taken fresh (opens_with t g) (opening t M C) opening_read opening_passes _ refl
