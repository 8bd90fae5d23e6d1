-- What the program's inner functions promise each other. No reader has to believe it: proofs/ shows what it has to do with 01.
use Rattle.std.specs.Prelude.{ℕ, cond, ◌&&◌, List, eqb}
use Rattle.site.specs.Presumption.{Outcome}
use Rattle.site.specs.Cohort.{Cohort, presumption_of}
use Rattle.site.specs.Step.{Row, answered}
use Rattle.site.specs.Coordinator.{CoordinatorPhase, tell_all}
use Rattle.site.specs.Participant.{participant_step}
use Rattle.site.specs.Numbers.{Arguments, participant_from, input_of, receives, is_member, in_range_at, refusal, participant_result, step_at}

-- an outcome told to a set and nothing else, the phase as it is
abbrev pub told_to : ℕ → Cohort → Outcome → ℕ → CoordinatorPhase → Row CoordinatorPhase
told_to t g o to c = record { effects = tell_all t g o to; phase = c }

-- the step on numbers at the coordinator, and at participant p, once the other arguments have passed
unfoldable pub coordinator_numbers : Arguments → List ℕ
coordinator_numbers a = cond (receives 0 a.kind && in_range_at 0 a) (step_at 0 a) refusal

unfoldable pub participant_numbers : Arguments → List ℕ
participant_numbers a =
    cond (receives 1 a.kind && is_member a)
    (participant_result a.phase
    (answered
    (participant_step (presumption_of a.cohort a.participant) a.participant (eqb a.mark 1) (input_of a.kind a.participant)
    (participant_from a.phase))))
    refusal

-- ---- a row up to where power goes

-- k, if any effect may still happen
abbrev pub up_to : ℕ → ℕ → ℕ
up_to n k = cond (eqb n 0) 0 k
