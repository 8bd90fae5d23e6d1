-- The steps by the kind's number, from what the program has tested. Assumes nothing.
use mathlib.Core.Path.{◌≡◌, refl, ap, ◌∙◌}
use mathlib.Core.Bool.{Bool, true, false, not, ◌||◌, and-false, or-true, ◌&&◌}
use mathlib.Core.Logic.{◌⊎◌, inl, inr}
use Prim.Native.Nat.{ℕ, ◌<◌}
use lib.Dec.{eqb, leb, ltb}
use native.Mathlib.Omega.{arith}
use borrow.Author.Tests.{ne_eqb, lt-ltb, le-ltb}
use Rattle.codec.specs.Lists.{any}
use Rattle.codec.specs.Sets.{participants, member}
use Rattle.codec.specs.Laws.Tests.{alike, alike_eq, below_at}
use Rattle.codec.specs.Laws.Members.{no_participant, member-participant}
use Rattle.std.specs.Prelude.{Option, None, Some, Ok}
use Rattle.site.specs.Step.{refused, answered, answer_if}
use Rattle.site.specs.Laws.Sets.{Numbered}
use Rattle.site.specs.Presumption.{Presumption}
use Rattle.site.specs.Cohort.{Cohort}
use Rattle.site.specs.Coordinator.{Coordinator, coordinator_step}
use Rattle.site.specs.Participant.{ParticipantPhase, participant_step}
use Rattle.site.specs.Numbers.{kinds_received, receives, input_of, coordinator_answer, participant_answer}
use Rattle.site.specs.Answers.{coordinator_state_in, participant_in, found_in, answer_in, coordinator_answer_in, participant_answer_in}
use Rattle.site.specs.declared.coordinator.CoordinatorState.{CoordinatorState}
use Rattle.site.specs.declared.phases.ParticipantPhase as phase
use Rattle.site.specs.declared.row.Row.{Row}

-- a step that is not refused
found : {S P : Type 0} (read : S → P) (t : ℕ) (o : Option (Row S)) → answer_in read t (Ok o) ≡ answered (found_in read t o)
unfolding answered
found read t None = refl
found read t (Some r) = refl

-- ---- the coordinator's

module _ (t : ℕ) (g : Cohort) (x : Coordinator) (kind p : ℕ) where
  -- a message of what is no member
  pub coordinator-stranger : leb 16 kind ≡ false → member p g.members ≡ false → refused ≡ coordinator_answer t g kind p x
  unfolding coordinator_answer answer_if
  coordinator-stranger k m = rw (k, m, and-false (receives 0 kind))

  -- a kind k that is received
  pub coordinator_takes : (k : ℕ) (o : Option (Row CoordinatorState)) → kind ≡ k → (receives 0 k && (leb 16 k || member p g.members)) ≡ true
      → found_in coordinator_state_in t o ≡ coordinator_step t g (input_of k p) x → coordinator_answer_in t (Ok o) ≡ coordinator_answer t g kind p x
  unfolding coordinator_answer answer_if
  coordinator_takes k o e r f = found coordinator_state_in t o ∙ rw (f, e, r)

pub coordinator_never : (t : ℕ) (g : Cohort) (x : Coordinator) (kind p : ℕ) → receives 0 kind ≡ false → refused ≡ coordinator_answer t g kind p x
unfolding coordinator_answer answer_if
coordinator_never t g x kind p r = rw r

-- none of the kinds received
pub not-received : (kind : ℕ) → (kind ≡ 1 → ⊥) → (kind ≡ 2 → ⊥) → (kind ≡ 5 → ⊥) → (kind ≡ 6 → ⊥) → (kind ≡ 7 → ⊥) → (kind ≡ 16 → ⊥) → (kind ≡ 17 → ⊥)
    → receives 0 kind ≡ false
unfolding receives any kinds_received
not-received kind a b c d r e f =
    rw (ne_eqb kind 1 a, ne_eqb kind 2 b, ne_eqb kind 5 c, ne_eqb kind 6 d, ne_eqb kind 7 r, ne_eqb kind 16 e, ne_eqb kind 17 f)

-- ---- a participant's

among : (p : ℕ) → p < 256 → any (eqb p) participants ≡ not (no_participant p)
unfolding any participants
among p h = alike_eq _ _ (below_at 256 (λ p. alike (any (eqb p) participants) (not (no_participant p))) tt p h)

pub among_yes : (p : ℕ) → Numbered p → any (eqb p) participants ≡ true
among_yes p n = among p (omega arith) ∙ rw (le-ltb p 1 n.0, le-ltb 8 p n.1)

pub among_no : (p : ℕ) → p < 256 → (p < 1) ⊎ (8 < p) → any (eqb p) participants ≡ false
among_no p h (inl l) = among p h ∙ rw (lt-ltb p 1 l)
among_no p h (inr l) = among p h ∙ rw (lt-ltb 8 p l, or-true (ltb p 1))

-- a member is a participant
pub member_among : (p m : ℕ) → p < 256 → m < 256 → member p m ≡ true → any (eqb p) participants ≡ true
member_among p m hp hm e = among p hp ∙ ap not (member-participant p m hm e)

module _ (q : Presumption) (p : ℕ) (mark : Bool) (kind : ℕ) (x : ParticipantPhase) where
  pub no_participant_lem : any (eqb p) participants ≡ false → refused ≡ participant_answer q p mark kind x
  unfolding participant_answer answer_if
  no_participant_lem n = rw (n, and-false (receives 1 kind))

  pub participant_takes : (t k : ℕ) (o : Option (Row phase.ParticipantPhase)) → any (eqb p) participants ≡ true → kind ≡ k → receives 1 k ≡ true
      → found_in participant_in t o ≡ participant_step q p mark (input_of k p) x → participant_answer_in t (Ok o) ≡ participant_answer q p mark kind x
  unfolding participant_answer answer_if
  participant_takes t k o n e r f = found participant_in t o ∙ rw (f, n, e, r)

  -- none of the kinds received
  pub participant_never : (kind ≡ 0 → ⊥) → (kind ≡ 3 → ⊥) → (kind ≡ 4 → ⊥) → (kind ≡ 17 → ⊥) → refused ≡ participant_answer q p mark kind x
  unfolding participant_answer answer_if receives any kinds_received
  participant_never a b c d = rw (ne_eqb kind 0 a, ne_eqb kind 3 b, ne_eqb kind 4 c, ne_eqb kind 17 d)
