-- Phases and record kinds by number. Assumes nothing.
use mathlib.Core.Path.{◌≡◌, refl}
use mathlib.Core.Bool.{false}
use mathlib.Core.List.{[], ◌∷◌}
use Prim.Native.Nat.{ℕ, ◌<◌, ◌≤◌}
use lib.ListN.{get_or-eq_default}
use Rattle.site.specs.Presumption.{commit, abort}
use Rattle.codec.specs.Laws.Members.{high_bits}
use Rattle.site.specs.Coordinator as coordinator
use Rattle.site.specs.Participant as participant
use Rattle.site.specs.Numbers.{waiting_set, coordinator_from, participant_from}
use Rattle.site.specs.Answers.{coordinator_in, has_kind}
use Rattle.site.specs.declared.phases.CoordinatorPhase.{CoordinatorPhase}
use Rattle.site.specs.declared.phases.CoordinatorPhase.TheVariants.{Open, Collecting, Committing, Aborting, Unknown}

pub last_coordinator : (phase w : ℕ) → 4 ≤ phase → coordinator_from phase w ≡ coordinator.unknown
unfolding coordinator_from
last_coordinator phase w h =
    get_or-eq_default
    (coordinator.initial ∷ coordinator.collecting w ∷ coordinator.awaiting_acks commit w ∷ coordinator.awaiting_acks abort w ∷ [])
    coordinator.unknown h

pub last_participant : (phase : ℕ) → 4 ≤ phase → participant_from phase ≡ participant.unknown
unfolding participant_from
last_participant phase h =
    get_or-eq_default
    (participant.working ∷ participant.prepared ∷ participant.decided commit ∷ participant.decided abort ∷ [])
    participant.unknown h

pub waits_for_none : (x : CoordinatorPhase) → ((w : ℕ) → x ≡ Collecting w → ⊥) → ((w : ℕ) → x ≡ Committing w → ⊥) → ((w : ℕ) → x ≡ Aborting w → ⊥) → waiting_set (coordinator_in x) ≡ 0
unfolding waiting_set
waits_for_none Open a b c = refl
waits_for_none (Collecting w) a b c = absurd (a w refl)
waits_for_none (Committing w) a b c = absurd (b w refl)
waits_for_none (Aborting w) a b c = absurd (c w refl)
waits_for_none Unknown a b c = refl

-- ---- kinds of record

pub no_kind : (kinds k : ℕ) → kinds < 65536 → 15 < k → has_kind kinds k ≡ false
unfolding has_kind
no_kind kinds k h l = rw (high_bits kinds 16 k h l) refl
