-- Phases in which an input finds no row. Assumes nothing.
use mathlib.Core.Path.{◌≡◌, refl}
use mathlib.Core.Option.{none}
use Prim.Native.Nat.{ℕ}
use Rattle.site.specs.Presumption.{Presumption, commit, abort, same_outcome}
use Rattle.site.specs.Cohort.{Cohort}
use Rattle.site.specs.Coordinator.{on_begin, on_no, on_read_only, coordinator_timer, acked_if, on_ack}
use Rattle.site.specs.Participant.{participant_timer}
use Rattle.site.specs.Answers.{coordinator_in, participant_in}
use Rattle.site.specs.declared.phases.CoordinatorPhase.{CoordinatorPhase}
use Rattle.site.specs.declared.phases.CoordinatorPhase.TheVariants.{Open, Collecting, Committing, Aborting, Unknown}
use Rattle.site.specs.declared.phases.ParticipantPhase.{ParticipantPhase}
use Rattle.site.specs.declared.phases.ParticipantPhase.TheVariants as participant

module _ (t : ℕ) (g : Cohort) where
  pub no_begin : (x : CoordinatorPhase) → (x ≡ Open → ⊥) → on_begin t g (coordinator_in x) ≡ none
  unfolding on_begin
  no_begin Open k = absurd (k refl)
  no_begin (Collecting w) k = refl
  no_begin (Committing w) k = refl
  no_begin (Aborting w) k = refl
  no_begin Unknown k = refl

  pub no_no : (out p : ℕ) (x : CoordinatorPhase) → ((w : ℕ) → x ≡ Collecting w → ⊥) → on_no t g out p (coordinator_in x) ≡ none
  unfolding on_no
  no_no out p Open k = refl
  no_no out p (Collecting w) k = absurd (k w refl)
  no_no out p (Committing w) k = refl
  no_no out p (Aborting w) k = refl
  no_no out p Unknown k = refl

  pub no_read_only : (out p : ℕ) (x : CoordinatorPhase) → ((w : ℕ) → x ≡ Collecting w → ⊥) → on_read_only t g out p (coordinator_in x) ≡ none
  unfolding on_read_only
  no_read_only out p Open k = refl
  no_read_only out p (Collecting w) k = absurd (k w refl)
  no_read_only out p (Committing w) k = refl
  no_read_only out p (Aborting w) k = refl
  no_read_only out p Unknown k = refl

  pub no_timer : (out : ℕ) (x : CoordinatorPhase) → ((w : ℕ) → x ≡ Collecting w → ⊥) → ((w : ℕ) → x ≡ Committing w → ⊥) → ((w : ℕ) → x ≡ Aborting w → ⊥) → coordinator_timer t g out (coordinator_in x) ≡ none
  unfolding coordinator_timer
  no_timer out Open a b c = refl
  no_timer out (Collecting w) a b c = absurd (a w refl)
  no_timer out (Committing w) a b c = absurd (b w refl)
  no_timer out (Aborting w) a b c = absurd (c w refl)
  no_timer out Unknown a b c = refl

pub no_commit_ack : (p : ℕ) (x : CoordinatorPhase) → ((w : ℕ) → x ≡ Committing w → ⊥) → on_ack commit p (coordinator_in x) ≡ none
unfolding on_ack acked_if same_outcome
no_commit_ack p Open k = refl
no_commit_ack p (Collecting w) k = refl
no_commit_ack p (Committing w) k = absurd (k w refl)
no_commit_ack p (Aborting w) k = refl
no_commit_ack p Unknown k = refl

pub no_abort_ack : (p : ℕ) (x : CoordinatorPhase) → ((w : ℕ) → x ≡ Aborting w → ⊥) → on_ack abort p (coordinator_in x) ≡ none
unfolding on_ack acked_if same_outcome
no_abort_ack p Open k = refl
no_abort_ack p (Collecting w) k = refl
no_abort_ack p (Committing w) k = refl
no_abort_ack p (Aborting w) k = absurd (k w refl)
no_abort_ack p Unknown k = refl

pub no_own_timer : (presumption : Presumption) (p : ℕ) (x : ParticipantPhase) → (x ≡ participant.Working → ⊥) → (x ≡ participant.Prepared → ⊥)
    → participant_timer presumption p (participant_in x) ≡ none
unfolding participant_timer
no_own_timer presumption p participant.Working a b = absurd (a refl)
no_own_timer presumption p participant.Prepared a b = absurd (b refl)
no_own_timer presumption p participant.Committed a b = refl
no_own_timer presumption p participant.Aborted a b = refl
no_own_timer presumption p participant.Unknown a b = refl
