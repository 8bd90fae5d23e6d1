-- Demand 3: every list of events, of any bytes, is safe.
use Prim.Native.Nat.{ℕ, zero, suc}
use mathlib.Core.Path.{◌≡◌, refl, sym, ap, ◌∙◌, subst}
use mathlib.Core.Logic.{◌⊎◌, inl, inr, ⊎_elim}
use mathlib.Core.Bool.{Bool, true, false, cond, not, ◌&&◌, ◌||◌, true≢false}
use mathlib.Core.List.{List, [], ◌∷◌, ◌++◌, append_assoc}
use lib.Dec.{T}
use borrow.Author.Tests.{eq-eqb}
use Rattle.codec.specs.Lists.{any, every}
use Rattle.codec.specs.Sets.{member}
use Rattle.codec.specs.Laws.Tests.{true_of, of_true}
use Rattle.site.specs.Presumption.{Outcome, commit, abort, same_outcome, silence}
use Rattle.site.specs.Cohort.{Cohort, presumption_of}
use Rattle.site.specs.Step.{prepare, read_only, coordinator_of}
use Rattle.site.specs.Coordinator.{CoordinatorPhase, Coordinator}
use Rattle.joint.specs.State.{Run, Site, fresh, coordinator_at, holds}
use Rattle.joint.specs.Run.{after}
use Rattle.joint.specs.Safety.{Moment, happened, history, along, is_entry, is_entry_at, is_vote, is_reply, in_doubt, commit_stable, outcome, steps, is_taking_out, taken_out, Happens, Safe, Demand3}
use Rattle.joint.proofs.Base.Booleans.{or_left, or_right}
use Rattle.joint.proofs.Base.History.{history_snoc}
use Rattle.joint.proofs.Base.Looked.{any_step, steps-append}
use Rattle.joint.proofs.Base.Lists.{any_found, any_more, any_middle}
use Rattle.joint.proofs.Base.Moments.{placed, moment_start, moment_cohort}
use Rattle.joint.proofs.Base.EventMoments.{reply_silence}
use Rattle.joint.proofs.View.View.{View, site_view, view}
use Rattle.joint.proofs.View.Acts.{holds_select}
use Rattle.joint.proofs.Safety.Tables.{Status, stable_kinds, has, doubtful, conforms, is_working, Stage, done, may_enter}
use Rattle.joint.proofs.Safety.Sets.{empty-none, no_zero}
use Rattle.joint.proofs.Safety.Holds.{holds_at}
use Rattle.joint.proofs.Safety.Invariant.{Log, waiting, resting, down, Standing, never, initial, collecting, decided, stage_of, has_decided, sent_in, Here, here, Mid, Inv, cohort_of}
use Rattle.joint.proofs.Safety.Tracked.{seen_after, next_kept, Tracked, tracked, track_later}
use Rattle.joint.proofs.Safety.Outcomes.{refl-outcome, same_outcome_lem, one_outcome_lem}

-- ---- an entry of commit is of a decided commit; where abort was entered, commit is not decided

both-decided : (h : Standing) → T (has_decided h commit) → T (has_decided h abort) → ⊥
both-decided (never u) c a = c
both-decided (initial b) c a = c
both-decided (collecting w out b) c a = c
both-decided (decided o out p l) c a = one_outcome_lem o c a

-- by a participant
member_commit : (h : Standing) (p : ℕ) (s : Status) (r : Bool) → T (may_enter (stage_of h p) s r commit) → T (has_decided h commit)
unfolding same_outcome
member_commit (never u) p s r k = k
member_commit (initial b) p s r k = k
member_commit (collecting w out b) p s r k = k
member_commit (decided o out pace l) p s r k = k

member_abort : (h : Standing) (p : ℕ) (s : Status) (r : Bool) → T (may_enter (stage_of h p) s r abort) → T (has_decided h commit) → ⊥
member_abort (never u) p s r k c = c
member_abort (initial b) p s r k c = c
member_abort (collecting w out b) p s r k c = c
member_abort (decided o out pace l) p s r k c = one_outcome_lem o c k

module _ {t : ℕ} {v : View} (h : Standing) (mid : Mid t h v) where
  -- whoever has entered an outcome is the coordinator or a member that may have
  entered : (o : Outcome) (P : Type 0) → (T (has_decided h o) → P) → ((p : ℕ) (s : Status) (r : Bool) → T (may_enter (stage_of h p) s r o) → P) → (s : ℕ)
      → T (v.entered s o) → P
  entered o P f g zero k = f (mid.entries o k)
  entered o P f g (suc n) k = go (member (suc n) (cohort_of v).members) (here mid n)
    where
      go : (b : Bool) → Here b t (stage_of h (suc n)) n v → P
      go true x = g (suc n) x.status (sent_in v (suc n) read_only) ((x.fine tt).entries o k)
      go false x = absurd (subst T (x.stands.entered o) k)

  entered_commit : (s : ℕ) → T (v.entered s commit) → T (has_decided h commit)
  entered_commit = entered commit (T (has_decided h commit)) (λ k. k) (member_commit h)

  entered_abort : (s : ℕ) → T (v.entered s abort) → T (has_decided h commit) → ⊥
  entered_abort s k = entered abort (T (has_decided h commit) → ⊥) (λ a c. both-decided h c a) (member_abort h) s k

-- ---- the first sentence

-- an entry is one at its site
entry_at : (t : ℕ) (o : Outcome) (m : Moment) → T (is_entry t o m) → T (is_entry_at t m.site o m)
unfolding is_entry_at
entry_at t o m k = rw (eq-eqb m.site m.site refl) k

entry_seen : (t : ℕ) (o : Outcome) (es : List (List ℕ)) → T (any (is_entry t o) (history fresh es)) → (s : ℕ) × T ((seen_after t es).entered s o)
unfolding view
entry_seen t o es k =
    let x = any_found (is_entry t o) (history fresh es) k in
    (x.1.site, subst (λ (ms : List Moment). T (any (is_entry_at t x.1.site o) ms)) (sym x.3) (any_middle (is_entry_at t x.1.site o) x.0 x.1 x.2 (entry_at t o x.1 x.4)))

agreement : (es : List (List ℕ)) (t : ℕ) → T (any (is_entry t commit) (history fresh es)) → T (any (is_entry t abort) (history fresh es)) → ⊥
agreement es t c a =
    let x = tracked t es in
    let i = entry_seen t commit es c in
    let j = entry_seen t abort es a in
    entered_abort x.standing x.inv.mid j.0 j.1 (entered_commit x.standing x.inv.mid i.0 i.1)

-- ---- the second sentence

-- an entry of an event is seen when the event is over
entered_now : (t : ℕ) (o : Outcome) (es : List (List ℕ)) (e : List ℕ) (seen : List Moment) (m : Moment) (rest : List Moment)
    → happened (after fresh es) e ≡ seen ++ (m ∷ rest) → T (is_entry t o m) → T ((seen_after t (es ++ (e ∷ []))).entered m.site o)
unfolding view
entered_now t o es e seen m rest q k =
    subst (λ (ms : List Moment). T (any (is_entry_at t m.site o) ms)) (sym (history_snoc fresh es e ∙ ap (λ (ms : List Moment). history fresh es ++ ms) q ∙ sym (append_assoc (history fresh es) seen (m ∷ rest))))
    (any_middle (is_entry_at t m.site o) (history fresh es ++ seen) m rest (entry_at t o m k))

-- whoever was taken out was so in a longer list
pub taken_later : (t p : ℕ) (es later : List (List ℕ)) → T (taken_out es t p) → T (taken_out (es ++ later) t p)
unfolding taken_out
taken_later t p es later k = subst T (sym (ap (any (is_taking_out t p)) (steps-append fresh es later))) (any_more (is_taking_out t p) (steps fresh es) (steps (after fresh es) later) k)

-- before an event, or by it
taken_next : (t p : ℕ) (es : List (List ℕ)) (e : List ℕ) → T (taken_out es t p) ⊎ T (is_taking_out t p (after fresh es, e)) → T (taken_out (es ++ (e ∷ [])) t p)
unfolding taken_out
taken_next t p es e k =
    subst T (sym (any_step (is_taking_out t p) es e))
    (⊎_elim (or_left (any (is_taking_out t p) (steps fresh es)) (is_taking_out t p (after fresh es, e))) (or_right (any (is_taking_out t p) (steps fresh es)) (is_taking_out t p (after fresh es, e))) k)

votes : (es : List (List ℕ)) (earlier : List Moment) (m : Moment) → Happens es earlier m → (t : ℕ) → T (is_entry t commit m)
    → (p : ℕ) → T (member p (m.before.transaction t).cohort.members) → T (any (is_vote t p) earlier || taken_out es t p)
unfolding view
votes es earlier m h t k zero b = absurd (no_zero (m.before.transaction t).cohort.members b)
votes es earlier m h t k (suc n) b =
    let x = placed es earlier m h in
    let old = tracked t x.before in
    let new = next_kept t x.before x.event old.standing old.inv in
    let decided =
    entered_commit new.standing new.inv.mid m.site (entered_now t commit x.before x.event x.seen m x.rest x.moments k) in
    let mine = subst (λ (g : Cohort). T (member (suc n) g.members)) (moment_cohort (after fresh x.before) x.event x.seen m x.rest x.moments t) b in
    ⊎_elim
    (λ o.
    or_right (any (is_vote t (suc n)) earlier) (taken_out es t (suc n))
    (subst (λ (l : List (List ℕ)). T (taken_out l t (suc n))) (append_assoc x.before (x.event ∷ []) x.later ∙ sym x.list)
    (taken_later t (suc n) (x.before ++ (x.event ∷ [])) x.later
    (taken_next t (suc n) x.before x.event (⊎_elim (λ c. inl (old.outs n c)) inr (new.from.outs n o))))))
    (λ v.
    or_left (any (is_vote t (suc n)) earlier) (taken_out es t (suc n))
    (subst (λ (ms : List Moment). T (any (is_vote t (suc n)) ms)) (sym x.earlier_is) (any_more (is_vote t (suc n)) (history fresh x.before) x.seen v)))
    (new.asked decided n mine)

-- ---- the third sentence

-- a coordinator that is up, in Unknown, on a transaction with members has decided, and is done with each of them
pub data Resting : Standing → Type 0 where
  rests : (o : Outcome) (out : ℕ) (b : Bool) (l : Log) → Resting (decided o out (resting b) l)

abbrev pub is_unknown : CoordinatorPhase → Bool
is_unknown CoordinatorPhase.initial = false
is_unknown (CoordinatorPhase.collecting w) = false
is_unknown (CoordinatorPhase.awaiting_acks o w) = false
is_unknown CoordinatorPhase.unknown = true

resting_only : {t : ℕ} {v : View} (h : Standing) → Inv t h v → (p : ℕ) → T (member p (cohort_of v).members) → (v.site 0).up ≡ true
    → v.transaction.coordinator.phase ≡ CoordinatorPhase.unknown → Resting h
resting_only {v} (never u) inv p m up c = absurd (empty-none (cohort_of v).members p (of_true (sym inv.mid.sound.opened)) m)
resting_only (initial b) inv p m up c = absurd (true≢false (sym (ap is_unknown (sym (ap (λ (z : Coordinator). z.phase) inv.phase) ∙ c))))
resting_only (collecting w out b) inv p m up c = absurd (true≢false (sym (ap is_unknown (sym (ap (λ (z : Coordinator). z.phase) inv.phase) ∙ c))))
resting_only (decided o out (waiting w) l) inv p m up c = absurd (true≢false (sym (ap is_unknown (sym inv.phase ∙ c))))
resting_only (decided o out (resting b) l) inv p m up c = rests o out b l
resting_only (decided o out down l) inv p m up c = absurd (true≢false (sym up ∙ ap (λ (s : Site). s.up) inv.mid.log))

-- in doubt, at the stage where the coordinator is done: silence means the outcome
doubt_law : (d a q s : Bool) → T d → T (a && (not true || s || (not d && q))) → T s
doubt_law true true q true d k = tt
doubt_law true true q false d k = absurd k
doubt_law true false q s d k = absurd k
doubt_law false a q s d k = absurd d

doubt_tests : (a b c : Bool) → T (every (a ∷ not b ∷ not c ∷ [])) → T (a && not (b || c))
unfolding every
doubt_tests true true c k = k
doubt_tests true false true k = k
doubt_tests true false false k = k
doubt_tests false b c k = k

-- what the run's log says of a member's doubt
in_doubt_lem : (t : ℕ) (es : List (List ℕ)) (m : Stage) (n : ℕ) (x : Here true t m n (seen_after t es)) → T (in_doubt (after fresh es) t (suc n))
    → T (doubtful x.status)
unfolding in_doubt view site_view
in_doubt_lem t es m n x k =
    doubt_tests (has 5 (stable_kinds x.status)) (has 6 (stable_kinds x.status)) (has 7 (stable_kinds x.status))
    (rw (sym (kind 5), sym (kind 6), sym (kind 7)) k)
  where
    kind : (k : ℕ) → holds t k ((after fresh es).site (suc n)).stable ≡ has k (stable_kinds x.status)
    kind k =
        sym (holds_select t k ((after fresh es).site (suc n)).stable) ∙ holds_at (cohort_of (seen_after t es)) 0 t (suc n) (stable_kinds x.status) x.stands.site k

-- what silence means to a member in doubt is decided
silence-decided : (t : ℕ) (es : List (List ℕ)) (h : Standing) → Inv t h (seen_after t es) → Resting h → (n : ℕ)
    → T (member (suc n) (cohort_of (seen_after t es)).members) → T (in_doubt (after fresh es) t (suc n))
    → T (has_decided h (silence (presumption_of (cohort_of (seen_after t es)) (suc n))))
silence-decided t es h inv (rests o out b l) n m d = go (member (suc n) (cohort_of (seen_after t es)).members) m (here inv.mid n)
  where
    s : Outcome
    s = silence (presumption_of (cohort_of (seen_after t es)) (suc n))

    go : (b : Bool) → T b → Here b t (done o true) n (seen_after t es) → T (same_outcome o s)
    go false k x = absurd k
    go true k x =
        subst (λ (z : Outcome). T (same_outcome o z)) (sym (same_outcome_lem s o
        (doubt_law (doubtful x.status) (conforms (presumption_of (cohort_of (seen_after t es)) (suc n)) o x.status) (not (is_working x.status && sent_in (seen_after t es) (suc n) prepare)) (same_outcome s o)
        (in_doubt_lem t es (done o true) n x d) (x.fine tt).shape))) (refl-outcome o)

outcome_is_lem : (t : ℕ) (es : List (List ℕ)) (x : Tracked t es) (o : Outcome) → T (has_decided x.standing o) → o ≡ outcome es t
unfolding outcome
outcome_is_lem t es x commit d = rw (true_of (any (commit_stable t) (along fresh es)) (x.stable d)) refl
outcome_is_lem t es x abort d = go (any (commit_stable t) (along fresh es)) refl
  where
    go : (b : Bool) → any (commit_stable t) (along fresh es) ≡ b → abort ≡ cond b commit abort
    go true e = absurd (both-decided x.standing (x.decides (of_true e)) d)
    go false e = refl

reply_decided : (t : ℕ) (es : List (List ℕ)) (p : ℕ) → T (member p ((after fresh es).transaction t).cohort.members)
    → ((after fresh es).site 0).up ≡ true → ((after fresh es).transaction t).coordinator.phase ≡ CoordinatorPhase.unknown
    → T (in_doubt (after fresh es) t p) → T (has_decided (tracked t es).standing (silence (presumption_of ((after fresh es).transaction t).cohort p)))
unfolding view site_view
reply_decided t es zero m up c d = absurd (no_zero ((after fresh es).transaction t).cohort.members m)
reply_decided t es (suc n) m up c d =
    let x = tracked t es in
    silence-decided t es x.standing x.inv (resting_only x.standing x.inv (suc n) m up c) n m d

replies : (es : List (List ℕ)) (earlier : List Moment) (m : Moment) → Happens es earlier m → (t p : ℕ) (o : Outcome) → T (is_reply t p o m)
    → (coordinator_at (m.start.transaction t) (coordinator_of p)).phase ≡ CoordinatorPhase.unknown → T (in_doubt m.start t p) → o ≡ outcome es t
unfolding coordinator_of
replies es earlier m h t p o r c d =
    let x = placed es earlier m h in
    let at = moment_start (after fresh x.before) x.event x.seen m x.rest x.moments in
    let unknown = ap (λ (y : Run). (y.transaction t).coordinator.phase) (sym at) ∙ c in
    let said = reply_silence (after fresh x.before) x.event x.seen m x.rest x.moments t p o r unknown in
    let now = reply_decided t x.before p said.1 said.2 unknown (subst (λ (y : Run). T (in_doubt y t p)) at d) in
    let end =
    track_later t x.before (x.event ∷ x.later) (tracked t x.before) o
    (subst (λ (z : Outcome). T (has_decided (tracked t x.before).standing z)) (sym said.0) now) in
    outcome_is_lem t (x.before ++ (x.event ∷ x.later)) end.0 o end.1 ∙ ap (λ (l : List (List ℕ)). outcome l t) (sym x.list)

-- ---- the claim

pub demand3 : (events : List (List ℕ)) → Safe events
demand3 es = record { agreement = agreement es; votes = votes es; replies = replies es }

-- as the definitions state it
pub as_stated : Demand3
as_stated = demand3
