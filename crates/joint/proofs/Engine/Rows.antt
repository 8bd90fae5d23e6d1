-- A row of one site in one transaction: found by site's step or restart, and what it does to the site, the transaction and the run.
use Prim.Native.Nat.{ℕ, zero, suc, ◌≤◌}
use mathlib.Core.Path.{◌≡◌, refl, sym, ap, ap₂, ◌∙◌}
use mathlib.Core.Bool.{Bool, true, false, cond, ◌&&◌, ◌||◌}
use mathlib.Core.List.{List, []}
use mathlib.Core.Option.{Option, none, some}
use Rattle.std.specs.Prelude as std
use lib.Dec.{eqb, ltb, leb}
use native.Mathlib.Omega.{arith}
use borrow.Author.Tests.{le-ltb}
use Rattle.codec.specs.Lists.{any}
use Rattle.codec.specs.Sets.{participants, member}
use Rattle.codec.specs.Laws.Tests.{below_at, true_of}
use Rattle.site.specs.Step as step_of
use Rattle.site.specs.Step.{Row, Effect, Answer, refused, no_row, row, answer_if, given}
use Rattle.site.specs.Cohort.{Cohort, presumption_of}
use Rattle.site.specs.Coordinator as part
use Rattle.site.specs.Coordinator.{coordinator_step, coordinator_restart}
use Rattle.site.specs.Participant.{participant_step, participant_restart}
use Rattle.site.specs.Numbers.{input_of, receives, coordinator_answer, participant_answer, participant_restarted, appending, entry_of}
use Rattle.site.specs.Answers.{coordinator_state_in, participant_in, presumption_in, cohort_in, effects_in, closing, sending, coordinator_row_in, answer_in, coordinator_answer_in, participant_answer_in, participant_restart_in}
use Rattle.site.specs.Laws.Remaining.{restart_by}
use Rattle.site.specs.declared.effects.Effects.{Effects}
use Rattle.site.specs.declared.coordinator.Coordinator.{Coordinator}
use Rattle.site.specs.declared.coordinator.CoordinatorState.{CoordinatorState}
use Rattle.site.specs.declared.cohort.Cohort as members
use Rattle.site.specs.declared.participant.Participant.{Participant}
use Rattle.site.specs.declared.row.Row as answered
use Rattle.site.specs.declared.row.Refused.{Refused}
use Rattle.site.specs.declared.phases.ParticipantPhase.{ParticipantPhase}
use Rattle.site.specs.Laws.Order.{ordered-none}
use Rattle.joint.specs.State as plain
use Rattle.joint.specs.State.{holds, recorded_cohort, update, with_coordinator, with_participant, with_marked, at_site, at_transaction, forgotten, stopped, down, perform_all}
use Rattle.joint.specs.Plan as plan
use Rattle.joint.specs.Plan.{Plan, acting, row_plan, planned, step, restarting, trimmed, forgotten_unless}
use Rattle.joint.specs.Answers.{transaction_in}
use Rattle.joint.specs.Inside.{site_after, transaction_after, then_in, then_site, then_transaction, goes_down, MayReceive}
use Rattle.joint.specs.declared.transactions.Transaction.{Transaction}
use Rattle.joint.specs.declared.rows.Then.{Then}
use Rattle.joint.specs.declared.rows.Then.TheVariants as follows
use Rattle.joint.proofs.Base.Placed.{update_twice, run_path, placed_as, placed_changed, performed}

-- ---- a row without effects

abbrev pub no_effects : Effects
no_effects = record { appended = 0; first = 0; second = 0; forced = false; entered = 0; message = 0; to = 0; owing = 0; last = 0 }

pub no_effects_lem : (t : ℕ) → effects_in t no_effects ≡ []
unfolding effects_in closing sending appending entry_of given
no_effects_lem t = rw (ordered-none t 0) refl

-- ---- what follows it, by its kind

pub not-down : (th : Then) → ((keep : ℕ) → th ≡ follows.Down keep → ⊥) → false ≡ goes_down th
unfolding goes_down
not-down follows.Same k = refl
not-down (follows.Coordinator c) k = refl
not-down (follows.Participant c) k = refl
not-down (follows.Opened g) k = refl
not-down (follows.Discarded b) k = refl
not-down (follows.Down keep) k = absurd (k keep refl)
not-down follows.Marked k = refl

pub kept_transaction : (s : ℕ) (th : Then) (x : plain.Transaction)
    → ((p : CoordinatorState) → th ≡ follows.Coordinator p → ⊥) → ((p : ParticipantPhase) → th ≡ follows.Participant p → ⊥)
    → ((g : members.Cohort) → th ≡ follows.Opened g → ⊥) → ((last : Bool) → th ≡ follows.Discarded last → ⊥) → (th ≡ follows.Marked → ⊥)
    → x ≡ then_transaction s th x
unfolding then_transaction
kept_transaction s follows.Same x a b c d e = refl
kept_transaction s (follows.Coordinator p) x a b c d e = absurd (a p refl)
kept_transaction s (follows.Participant p) x a b c d e = absurd (b p refl)
kept_transaction s (follows.Opened g) x a b c d e = absurd (c g refl)
kept_transaction s (follows.Discarded last) x a b c d e = absurd (d last refl)
kept_transaction s (follows.Down keep) x a b c d e = refl
kept_transaction s follows.Marked x a b c d e = absurd (e refl)

-- ---- what a row does in a run

-- the transactions, where site s went down
abbrev pub forgotten_if : Bool → ℕ → (ℕ → plain.Transaction) → ℕ → plain.Transaction
forgotten_if true s f = λ t. forgotten s (f t)
forgotten_if false s f = f

module _ (s t : ℕ) (a : plain.Site) (x : plain.Transaction) (w : plain.Run) where
  then_placed : (th : Then) → then_in s t th (placed_as s t a x w)
      ≡ record {
        site = update s (λ _. then_site t th a) w.site;
        transaction = forgotten_if (goes_down th) s (update t (λ _. then_transaction s th x) w.transaction);
      }
  unfolding then_in then_site then_transaction goes_down forgotten_unless at_site down
  then_placed follows.Same = refl
  then_placed (follows.Coordinator c) = placed_changed s t (with_coordinator 0 (coordinator_state_in c)) a x w
  then_placed (follows.Participant c) = placed_changed s t (with_participant s (participant_in c)) a x w
  then_placed (follows.Opened g) = placed_changed s t (plan.opened_as (cohort_in g)) a x w
  then_placed (follows.Discarded true) =
      ap (at_transaction t (with_participant s _)) dropped ∙ placed_changed s t (with_participant s _) (trimmed t a) x w
    where
      dropped : ◌≡◌ {A = plain.Run} (record { site = update s (trimmed t) (update s (λ _. a) w.site); transaction = update t (λ _. x) w.transaction }) (placed_as s t (trimmed t a) x w)
      dropped = run_path (update_twice s (trimmed t) (λ _. a) w.site) refl
  then_placed (follows.Discarded false) = run_path (update_twice s (trimmed t) (λ _. a) w.site) refl
  then_placed (follows.Down keep) = run_path (update_twice s (stopped keep) (λ _. a) w.site) refl
  then_placed follows.Marked = placed_changed s t (with_marked s) a x w

pub row_happens : (s t : ℕ) (th : Then) (es : List Effect) (w : plain.Run)
    → then_in s t th (perform_all s (acting t es) w)
    ≡ record {
      site = update s (λ _. then_site t th (site_after t es (w.site s))) w.site;
      transaction = forgotten_if (goes_down th) s (update t (λ _. then_transaction s th (transaction_after s es (w.transaction t))) w.transaction);
    }
row_happens s t th es w =
    ap (then_in s t th) (performed s t es w) ∙ then_placed s t (site_after t es (w.site s)) (transaction_after s es (w.transaction t)) w th

-- ---- options of plans

pub some_same : {x y : Plan} → some x ≡ some y → x ≡ y
some_same e = cc

pub some-none : {x : Plan} → some x ≡ none → ⊥
some-none e = let z : ◌≡◌ {A = ℕ} 0 1 = ap there e in omega (arith, z)
  where
    there : Option Plan → ℕ
    there none = 1
    there (some p) = 0

-- ---- the row of an answer

abbrev pub row_of : {P : Type 0} → Answer P → Option (Row P)
row_of refused = none
row_of no_row = none
row_of (row r) = some r

row-answered : {P : Type 0} (o : Option (Row P)) (b : Bool) → b ≡ true → row_of (answer_if b o) ≡ o
unfolding answer_if step_of.answered
row-answered none true e = refl
row-answered (some r) true e = refl
row-answered o false e = cc

-- what site's step gives
abbrev pub Answered : Type 0 → Type 0
Answered S = std.Result (std.Option (answered.Row S)) Refused

no_row_of : {S P : Type 0} (read : S → P) (t : ℕ) (a : Answered S) → ((r : answered.Row S) → a ≡ std.Ok (std.Some r) → ⊥) → none ≡ row_of (answer_in read t a)
no_row_of read t (std.Ok (std.Some r)) k = absurd (k r refl)
no_row_of read t (std.Ok std.None) k = refl
no_row_of read t (std.Err e) k = refl

pub no_coordinator-row : (t : ℕ) (a : Answered CoordinatorState) → ((r : answered.Row CoordinatorState) → a ≡ std.Ok (std.Some r) → ⊥) → none ≡ row_of (coordinator_answer_in t a)
no_coordinator-row = no_row_of coordinator_state_in

pub no_participant-row : (t : ℕ) (a : Answered ParticipantPhase) → ((r : answered.Row ParticipantPhase) → a ≡ std.Ok (std.Some r) → ⊥) → none ≡ row_of (participant_answer_in t a)
no_participant-row = no_row_of participant_in

-- ---- the coordinator

-- c: the coordinator, as the program hands it to its step
pub coordinator_found : (x : plain.Transaction) (c : Coordinator) → (cohort_in c.cohort ≡ x.cohort) × (coordinator_state_in c.state ≡ x.coordinator)
    → (w : plain.Run) (t : ℕ) → x ≡ w.transaction t
    → (kind p : ℕ) (a : Answered CoordinatorState) → (receives 0 kind && (leb 16 kind || member p x.cohort.members)) ≡ true
    → coordinator_answer_in t a ≡ coordinator_answer t (cohort_in c.cohort) kind p (coordinator_state_in c.state)
    → planned 0 t (with_coordinator 0) (row_of (coordinator_answer_in t a)) ≡ step w t 0 (input_of kind p)
unfolding step coordinator_answer
coordinator_found x c stands w t own kind p a h e =
    let same = ap₂ (λ (g : Cohort) (k : part.Coordinator). coordinator_answer t g kind p k) stands.0 stands.1 in
    ap (planned 0 t (with_coordinator 0)) (ap row_of (e ∙ same) ∙ row-answered _ _ h)
    ∙ ap (λ (y : plain.Transaction). planned 0 t (with_coordinator 0) (coordinator_step t y.cohort (input_of kind p) y.coordinator)) own

same_kinds : (t : ℕ) (a b : ℕ → Bool) (told : ℕ → Cohort) → ((k : ℕ) → k ≤ 7 → a k ≡ b k) → coordinator_restart t a told ≡ coordinator_restart t b told
unfolding coordinator_restart
same_kinds t a b told q = rw (q 1 (omega arith), q 2 (omega arith), q 3 (omega arith), q 4 (omega arith)) refl

-- g: the cohort in the record from which it resumes
pub coordinator_restarts : (w : plain.Run) (t : ℕ) (f : ℕ → Bool) (g : Cohort) (r : answered.Row CoordinatorState) → coordinator_row_in t r ≡ coordinator_restart t f (λ k. g)
    → ((k : ℕ) → k ≤ 7 → f k ≡ holds t k (w.site 0).stable)
    → g ≡ recorded_cohort t (cond (f 2) 2 1) (w.site 0).stable
    → row_plan 0 t (with_coordinator 0) (coordinator_row_in t r) ≡ restarting w 0 t
unfolding restarting
coordinator_restarts w t f g r e h m =
    let log = (w.site 0).stable in
    let told : g ≡ recorded_cohort t (cond (holds t 2 log) 2 1) log = rw (h 2 (omega arith)) at m in
    ap (row_plan 0 t (with_coordinator 0))
    (e ∙ same_kinds t f (λ k. holds t k log) (λ k. g) h ∙ ap (λ (g : Cohort). coordinator_restart t (λ k. holds t k log) (λ k. g)) told ∙ sym (restart_by t (λ k. holds t k log) (λ k. recorded_cohort t k log)))

-- ---- a participant

-- what it may receive
pub own_message : (x : plain.Transaction) (s kind p : ℕ) → MayReceive x s kind p → (s ≡ 0 → ⊥) → (1 ≤ s) × ((p ≡ s) × (receives 1 kind ≡ true))
unfolding MayReceive
own_message x zero kind p h z = absurd (z refl)
own_message x (suc n) kind p h z = (omega arith, h)

step_of_participant : (w : plain.Run) (t n kind : ℕ) → 1 ≤ n
    → planned n t (with_participant n) (participant_step (presumption_of (w.transaction t).cohort n) n ((w.transaction t).marked n) (input_of kind n) ((w.transaction t).participant n)) ≡ step w t n (input_of kind n)
unfolding step
step_of_participant w t zero kind h = absurd (omega (arith, h))
step_of_participant w t (suc n) kind h = refl

restart_of_participant : (w : plain.Run) (t n : ℕ) → 1 ≤ n
    → row_plan n t (with_participant n) (participant_restart (presumption_of (w.transaction t).cohort n) n (λ k. holds t k (w.site n).stable)) ≡ restarting w n t
unfolding restarting
restart_of_participant w t zero h = absurd (omega (arith, h))
restart_of_participant w t (suc n) h = refl

module _ (x : Transaction) (w : plain.Run) (t : ℕ) (own : transaction_in x ≡ w.transaction t) (n : ℕ) (low : 1 ≤ n) (high : n ≤ 8) where
  numbered : any (eqb n) participants ≡ true
  unfolding any participants
  numbered = true_of _ (rw (le-ltb n 1 low) at (below_at 9 (λ n. ltb n 1 || any (eqb n) participants) tt n (omega arith)))

  -- r: this participant, as the program hands it to its step
  module _ (r : Participant) (number : r.number ≡ n) (phase : participant_in r.phase ≡ (transaction_in x).participant n)
      (presumption : presumption_in r.presumption ≡ presumption_of (transaction_in x).cohort n) (mark : r.marked ≡ (transaction_in x).marked n) where
    pub participant_found : (kind : ℕ) (a : Answered ParticipantPhase) → receives 1 kind ≡ true
        → participant_answer_in t a ≡ participant_answer (presumption_in r.presumption) r.number r.marked kind (participant_in r.phase)
        → planned n t (with_participant n) (row_of (participant_answer_in t a)) ≡ step w t n (input_of kind n)
    unfolding participant_answer
    participant_found kind a h e =
        ap (planned n t (with_participant n)) (ap row_of (rw (number, phase, presumption, mark) at e) ∙ row-answered _ _ (rw (h, numbered) refl))
        ∙ ap (λ (y : plain.Transaction). planned n t (with_participant n) (participant_step (presumption_of y.cohort n) n (y.marked n) (input_of kind n) (y.participant n))) own
        ∙ step_of_participant w t n kind low

    pub participant_restarts : (f : ℕ → Bool) (a : std.Result (answered.Row ParticipantPhase) Refused) → participant_restart_in t a ≡ participant_restarted (presumption_in r.presumption) r.number f
        → ((k : ℕ) → k ≤ 7 → f k ≡ holds t k (w.site n).stable)
        → planned n t (with_participant n) (row_of (participant_restart_in t a)) ≡ some (restarting w n t)
    unfolding participant_restarted planned participant_restart
    participant_restarts f a e h =
        ap (planned n t (with_participant n)) (ap row_of (rw (number, presumption, h 5 (omega arith), h 6 (omega arith), h 7 (omega arith)) at e) ∙ row-answered _ _ numbered)
        ∙ ap (λ (y : plain.Transaction). some (row_plan n t (with_participant n) (participant_restart (presumption_of y.cohort n) n (λ k. holds t k (w.site n).stable)))) own
        ∙ ap some (restart_of_participant w t n low)
