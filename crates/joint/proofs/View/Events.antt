-- What each event does to the view of each transaction is one of the turns of view/Turn, or nothing.
use Prim.Native.Nat.{ℕ, zero, suc, ◌<◌, ◌≤◌}
use mathlib.Core.Path.{◌≡◌, refl, sym, ap, ◌∙◌}
use mathlib.Core.Logic.{◌≢◌}
use mathlib.Core.Bool.{Bool, true, false, cond, ◌||◌, true≢false}
use mathlib.Core.List.{List, [], ◌∷◌, ◌++◌, append-nil}
use mathlib.Core.Option.{Option, some}
use lib.Dec.{T, eqb}
use native.Mathlib.Omega.{arith}
use borrow.Author.Tests.{eq-eqb, ne_eqb, eqb-true, not-false}
use Rattle.codec.specs.Lists.{select, any, every, first}
use Rattle.codec.specs.Sets.{participants, member, empty, listed}
use Rattle.codec.specs.Laws.Tests.{of_true, true_of, or_none, below_at}
use Rattle.codec.specs.Laws.Members.{numbered, member-participant}
use Rattle.site.specs.Step.{Message, prepare, vote_yes, vote_no, read_only, tell, ack, coordinator_of, receiver, message_kind, begin, timer, received, force}
use Rattle.site.specs.Cohort.{Cohort}
use Rattle.site.specs.Participant.{ParticipantPhase}
use Rattle.joint.specs.State.{Run, opened, takes_part, at_transaction, with_marked}
use Rattle.joint.specs.Event.{Event, opening, beginning, delivery, timeout, forcing, discarding, crash, restart, marking, Parsed, parse}
use Rattle.joint.specs.Refusals.{unopened, stranger, is_down, refusals}
use Rattle.joint.specs.Plan.{Plan, acting, or_nothing, opened_as, may_discard, discard, is_working, plan}
use Rattle.joint.specs.Run.{Result, refuse, carry, cut_short, event, is_force}
use Rattle.joint.specs.Safety.{Moment, moments, happened, accepts, collects, is_taking_out}
use Rattle.joint.proofs.Base.Looked.{delivery_bytes}
use Rattle.joint.proofs.Base.Ranges.{InRange, parse_range}
use Rattle.joint.proofs.Base.History.{EventCase, refused, whole, cut, event_case}
use Rattle.joint.proofs.Base.Plans.{not_struck, is_up_lem, All, all_or, all_only}
use Rattle.joint.proofs.View.View.{site_view, view, not_opened, is_opened, site-up, view_settle}
use Rattle.joint.proofs.View.Turn.{Takes, view_discard, opens, marks, discards, Turns, still, turn, others}
use Rattle.joint.proofs.View.Acts.{seen_effects}
use Rattle.joint.proofs.View.Carries.{seen_own, seen_other, all_forces, Shown, whole_turns, cut_turns}
use Rattle.joint.proofs.View.Settles.{marked_bare, opened_bare, settle_own, settle_other, discard_own, discard_other}
use Rattle.joint.proofs.View.Restarts.{restart-shown}
use Rattle.joint.proofs.View.Rows.{own_or_other, bare_shown, step_other, step_own}

-- ---- what the refusals leave

none_selected : (f g : ℕ → Bool) (ps : List ℕ) → any f (select g ps) ≡ false → (x : ℕ) → any (eqb x) ps ≡ true → g x ≡ true → f x ≡ false
unfolding any select
none_selected f g [] h x e k = absurd (true≢false (sym e))
none_selected f g (p ∷ ps) h x e k = go (eqb x p) refl (g p) refl h e (λ h. none_selected f g ps h x)
  where
    go : (b : Bool) → eqb x p ≡ b → (c : Bool) → g p ≡ c → any f (cond c (p ∷ select g ps) (select g ps)) ≡ false → (b || any (eqb x) ps) ≡ true
        → (any f (select g ps) ≡ false → any (eqb x) ps ≡ true → g x ≡ true → f x ≡ false) → f x ≡ false
    go true q true c h e ih = ap f (eqb-true x p q) ∙ (or_none (f p) (any f (select g ps)) (unfold any in h)).0
    go true q false c h e ih = absurd (true≢false (sym k ∙ ap g (eqb-true x p q) ∙ c))
    go false q true c h e ih = ih (or_none (f p) (any f (select g ps)) (unfold any in h)).1 e k
    go false q false c h e ih = ih h e k

pub all_up : (r : Run) (ps : List ℕ) → first ((5, any (is_down r) (0 ∷ ps)) ∷ []) ≡ 0 → ((r.site 0).up ≡ true) × (any (is_down r) ps ≡ false)
unfolding any is_down
all_up r ps h =
    let q = or_none _ _ (not_struck 4 _ [] h).0 in
    (not-false _ q.0, q.1)

pub members-up : (r : Run) (M : ℕ) → M < 256 → any (is_down r) (listed M) ≡ false → (n : ℕ) → member (suc n) M ≡ true → (r.site (suc n)).up ≡ true
unfolding listed is_down
members-up r M small h n m =
    let range = numbered (suc n) (member-participant (suc n) M small m) in
    not-false _
    (none_selected (is_down r) (λ p. member p M) participants h (suc n)
    (true_of _ (unfold any participants in below_at 8 (λ k. any (eqb (suc k)) participants) tt n (omega (arith, range.1)))) m)

module _ (r : Run) (t : ℕ) where
  pub was_opened : (l : List (ℕ × Bool)) → first ((3, unopened r t) ∷ l) ≡ 0 → opened r t ≡ true
  unfolding unopened
  was_opened l h = not-false _ (not_struck 2 _ l h).0

  pub is_part : (s : ℕ) (l : List (ℕ × Bool)) → first ((4, stranger r t s) ∷ l) ≡ 0 → takes_part (r.transaction t) s ≡ true
  unfolding stranger
  is_part s l h = not-false _ (not_struck 3 _ l h).0

pub receiver-part : (r : Run) (t p : ℕ) (m : Message) → takes_part (r.transaction t) p ≡ true → takes_part (r.transaction t) (receiver m p) ≡ true
unfolding receiver coordinator_of takes_part
receiver-part r t p prepare h = h
receiver-part r t p vote_yes h = refl
receiver-part r t p vote_no h = refl
receiver-part r t p read_only h = refl
receiver-part r t p (tell o) h = h
receiver-part r t p (ack o) h = refl

-- a message that goes to a participant is its own
receiver_own : (p : ℕ) (m : Message) (n : ℕ) → receiver m p ≡ suc n → p ≡ suc n
unfolding receiver coordinator_of
receiver_own p prepare n e = e
receiver_own p vote_yes n e = absurd (omega arith)
receiver_own p vote_no n e = absurd (omega arith)
receiver_own p read_only n e = absurd (omega arith)
receiver_own p (tell o) n e = e
receiver_own p (ack o) n e = absurd (omega arith)

-- the phase that a mark asks for
is_working_lem : (x : ParticipantPhase) → is_working x ≡ true → x ≡ ParticipantPhase.working
unfolding is_working
is_working_lem ParticipantPhase.working e = refl
is_working_lem ParticipantPhase.prepared e = absurd (true≢false (sym e))
is_working_lem (ParticipantPhase.decided o) e = absurd (true≢false (sym e))
is_working_lem ParticipantPhase.unknown e = absurd (true≢false (sym e))

-- ---- plans

or_shown : (t : ℕ) (Out : ℕ → Type 0) (r : Run) (s : ℕ) (o : Option Plan) → All (Shown t Out r) o → Shown t Out r (or_nothing s o)
or_shown t Out r s o = all_or (Shown t Out r) s o (bare_shown t Out r s (λ x. x) (λ v. v) (λ ms x. refl) (λ ms. still))

-- Out: whom the event takes out
module _ (t : ℕ) (Out : ℕ → Type 0) (r : Run) where
  abbrev Planned : Event → Type 0
  Planned e = first (refusals r e) ≡ 0 → All (Shown t Out r) (plan r e)

  -- a read-only vote that is delivered while votes are collected takes its sender out
  abbrev TakesOut : Event → Type 0
  TakesOut e = (p : ℕ) → e ≡ delivery t p read_only → T (collects (r.transaction t).coordinator.phase) → Out p

  takes_received : (p : ℕ) (m : Message) → TakesOut (delivery t p m) → (ms : List Moment) → Takes Out (view t ms r) (received m p)
  unfolding view
  takes_received p prepare h ms = tt
  takes_received p vote_yes h ms = tt
  takes_received p vote_no h ms = tt
  takes_received p read_only h ms = h p refl
  takes_received p (tell o) h ms = tt
  takes_received p (ack o) h ms = tt

  opening_own : (M C : ℕ) → InRange (opening t M C) → Planned (opening t M C)
  unfolding refusals plan
  opening_own M C range h =
      let g : Cohort = record { members = M; presume_commit = C } in
      let a = not_struck 1 _ _ h in
      let b = all_up r (listed M) a.1 in
      bare_shown t Out r 0 (at_transaction t (opened_as g)) (view_settle (opened_as g)) (settle_own t _ (opened_bare g))
      (λ ms.
      turn
      (opens g range.0 range.1 range.3 (unfold empty in ne_eqb M 0 (λ e. omega (arith, range.2))) (not_opened t ms r a.0) (site-up t ms r 0 ∙ b.0)
      (λ n m. site-up t ms r (suc n) ∙ members-up r M range.1 b.1 n m)))

  opening_other : (M C u : ℕ) → u ≢ t → Planned (opening u M C)
  unfolding refusals plan
  opening_other M C u n h = bare_shown t Out r 0 (at_transaction u _) (λ v. v) (settle_other t u _ n) (λ ms. still)

  beginning_own : Planned (beginning t)
  unfolding refusals plan
  beginning_own h = step_own t Out r begin (was_opened r t _ h) (λ ms. tt) (λ ms. tt) 0 (unfold takes_part in refl) (is_up_lem r 0 [] (not_struck 2 _ _ h).1) (λ n e. tt)

  delivery_own : (p : ℕ) (m : Message) → 1 ≤ p → TakesOut (delivery t p m) → Planned (delivery t p m)
  unfolding refusals plan view takes_part
  delivery_own zero m range takes h = absurd (omega arith)
  delivery_own (suc n) m range takes h =
      let a = (not_struck 2 _ _ h).1 in
      let b = (not_struck 3 _ _ a).1 in
      let part = is_part r t (suc n) _ a in
      let sent : (r.transaction t).sent (suc n) (message_kind m) ≡ true = not-false _ (not_struck 6 _ _ (not_struck 4 _ _ b).1).0 in
      or_shown t Out r (receiver m (suc n)) _
      (step_own t Out r (received m (suc n)) (was_opened r t _ h)
      (λ ms. (of_true {b = member (suc n) (r.transaction t).cohort.members} part, of_true sent)) (takes_received (suc n) m takes)
      (receiver m (suc n)) (receiver-part r t (suc n) m part) (is_up_lem r (receiver m (suc n)) _ b) (receiver_own (suc n) m))

  timeout_own : (s : ℕ) → Planned (timeout t s)
  unfolding refusals plan
  timeout_own s h =
      let a = (not_struck 2 _ _ h).1 in
      step_own t Out r timer (was_opened r t _ h) (λ ms. tt) (λ ms. tt) s (is_part r t s _ a) (is_up_lem r s _ (not_struck 3 _ _ a).1) (λ n e. tt)

  discarding_own : (s : ℕ) → Planned (discarding t s)
  unfolding refusals plan view site_view may_discard
  discarding_own s h =
      let up = is_up_lem r s _ (not_struck 3 _ _ (not_struck 2 _ _ h).1).1 in
      all_only (Shown t Out r) _ _
      (λ e.
      bare_shown t Out r s (discard t s) (view_discard s) (discard_own t s)
      (λ ms. turn (discards s (site-up t ms r s ∙ up) (is_opened t ms r (was_opened r t _ h)) e)))

  marking_own : (p : ℕ) → 1 ≤ p → Planned (marking t p)
  unfolding refusals plan view takes_part
  marking_own zero range h = absurd (omega arith)
  marking_own (suc n) range h =
      let a = (not_struck 2 _ _ h).1 in
      all_only (Shown t Out r) _ _
      (λ e.
      bare_shown t Out r (suc n) (at_transaction t (with_marked (suc n))) (view_settle (with_marked (suc n))) (settle_own t _ (marked_bare (suc n)))
      (λ ms. turn (marks n (of_true (is_part r t (suc n) _ a)) (is_working_lem _ e))))

  forcing-shown : (s : ℕ) → Planned (forcing s)
  unfolding refusals plan
  forcing-shown s h =
      record {
        after = λ v. v;
        settles = λ ms x. refl;
        row = λ ms. rw seen-force (others (all_forces (force ∷ [])));
      }
    where
      seen-force : seen_effects t (acting 0 (force ∷ [])) ≡ select is_force (force ∷ [])
      seen-force =
          own_or_other t (λ u. seen_effects t (acting u (force ∷ [])) ≡ select is_force (force ∷ []))
          (seen_own t (force ∷ []) ∙ (unfold select is_force in refl)) (λ u n. seen_other t u n (force ∷ [])) 0

  pub plan-shown : (e : Event) → InRange e → (opened r t ≡ true → t < 8) → TakesOut e → Planned e
  unfolding refusals plan
  plan-shown (opening u M C) range small takes =
      own_or_other t (λ u. InRange (opening u M C) → Planned (opening u M C)) (opening_own M C) (λ u n range. opening_other M C u n) u range
  plan-shown (beginning u) range small takes =
      own_or_other t (λ u. Planned (beginning u)) beginning_own (λ u n h. step_other t Out r 0 u begin n) u
  plan-shown (delivery u p m) range small takes =
      own_or_other t (λ u. TakesOut (delivery u p m) → Planned (delivery u p m)) (delivery_own p m range)
      (λ u n w h. or_shown t Out r (receiver m p) _ (step_other t Out r (receiver m p) u (received m p) n)) u takes
  plan-shown (timeout u s) range small takes =
      own_or_other t (λ u. Planned (timeout u s)) (timeout_own s) (λ u n h. step_other t Out r s u timer n) u
  plan-shown (forcing s) range small takes = forcing-shown s
  plan-shown (discarding u s) range small takes =
      own_or_other t (λ u. Planned (discarding u s)) (discarding_own s)
      (λ u n h. all_only (Shown t Out r) _ _ (λ e. bare_shown t Out r s (discard u s) (λ v. v) (discard_other t u s n) (λ ms. still))) u
  plan-shown (crash s) range small takes = λ h. bare_shown t Out r s (λ x. x) (λ v. v) (λ ms x. refl) (λ ms. still)
  plan-shown (restart s) range small takes = λ h. restart-shown t Out r s (not_struck 5 _ [] h).0 small
  plan-shown (marking u p) range small takes =
      own_or_other t (λ u. Planned (marking u p)) (marking_own p range)
      (λ u n h. all_only (Shown t Out r) _ _ (λ e. bare_shown t Out r p (at_transaction u (with_marked p)) (λ v. v) (settle_other t u _ n) (λ ms. still))) u

-- ---- events

-- the event takes p out
abbrev pub OutBy : ℕ → Run → List ℕ → ℕ → Type 0
OutBy t r bytes p = T (is_taking_out t p (r, bytes))

-- one that is accepted, and delivers a read-only vote in Collecting
out_by : (t : ℕ) (r : Run) (bytes : List ℕ) (x : Parsed) → parse bytes ≡ some x → (event r bytes).answer ≡ 0 → TakesOut t (OutBy t r bytes) r x.event
unfolding is_taking_out accepts every coordinator_of
out_by t r bytes x h a p e c =
    rw (delivery_bytes bytes x h t p read_only e, eq-eqb (event r bytes).answer 0 a, true_of (collects (r.transaction t).coordinator.phase) c) tt

case_turns : (t : ℕ) (ms : List Moment) (r : Run) (bytes : List ℕ) → (opened r t ≡ true → t < 8)
    → {x : Result} → EventCase r bytes x → (event r bytes).answer ≡ x.answer
    → Turns t (OutBy t r bytes) (view t ms r) (view t (ms ++ moments bytes r x.site x.acts r) x.run)
unfolding refuse moments carry cut_short
case_turns t ms r bytes small (refused n) q = rw append-nil still
case_turns t ms r bytes small (whole {x} {p} a c) q =
    let h : Shown t (OutBy t r bytes) r p = rw a.planned at (plan-shown t (OutBy t r bytes) r x.event (parse_range bytes x a.parsed) small (out_by t r bytes x a.parsed q) a.passed) in
    whole_turns bytes t (OutBy t r bytes) ms r p h
case_turns t ms r bytes small (cut {x} {p} n k a c b) q =
    let h : Shown t (OutBy t r bytes) r p = rw a.planned at (plan-shown t (OutBy t r bytes) r x.event (parse_range bytes x a.parsed) small (out_by t r bytes x a.parsed q) a.passed) in
    cut_turns bytes t (OutBy t r bytes) ms r p h n k

-- each event, of any bytes, if a transaction that is opened is one of eight
pub event_turns : (t : ℕ) (ms : List Moment) (r : Run) (bytes : List ℕ) → (opened r t ≡ true → t < 8)
    → Turns t (OutBy t r bytes) (view t ms r) (view t (ms ++ happened r bytes) (event r bytes).run)
unfolding happened
event_turns t ms r bytes small = case_turns t ms r bytes small (event_case r bytes) refl
