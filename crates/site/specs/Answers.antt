-- What the program's values stand for. Nothing here says what is right: Coordinator, Participant and Numbers do.
use Rattle.std.specs.Prelude.{ℕ, zero, suc, ◌-◌, ◌/◌, ◌%◌, ◌^◌, Bool, List, [], ◌∷◌, ◌++◌, map, take, get_or, eqb, leb, Option, Some, None, Result, Ok, Err}
use Rattle.std.proofs.Math.Option as options
use Rattle.codec.specs.Records.{length_of}
use Rattle.site.specs.Presumption as outcomes
use Rattle.site.specs.Cohort.{Cohort}
use Rattle.site.specs.Step.{prepare, messages, Effect, append, force, send, Row, given, Answer, refused, no_row, row}
use Rattle.site.specs.Coordinator as coordinator-step
use Rattle.site.specs.Coordinator.{ordered}
use Rattle.site.specs.Participant as participant-step
use Rattle.site.specs.Numbers as numbers
use Rattle.site.specs.declared.presumption.Outcome.{Outcome}
use Rattle.site.specs.declared.presumption.Outcome.TheVariants as outcome
use Rattle.site.specs.declared.presumption.Presumption.{Presumption}
use Rattle.site.specs.declared.presumption.Presumption.TheVariants as presumption
use Rattle.site.specs.declared.phases.CoordinatorPhase.{CoordinatorPhase}
use Rattle.site.specs.declared.phases.CoordinatorPhase.TheVariants as coordinator
use Rattle.site.specs.declared.phases.ParticipantPhase.{ParticipantPhase}
use Rattle.site.specs.declared.phases.ParticipantPhase.TheVariants as participant
use Rattle.site.specs.declared.effects.Effects.{Effects}
use Rattle.site.specs.declared.effects.Summary.{Summary}
use Rattle.site.specs.declared.row.Row as answered-row
use Rattle.site.specs.declared.row.Refused.{Refused}
use Rattle.site.specs.declared.cohort.Cohort as members
use Rattle.site.specs.declared.coordinator.CoordinatorState.{CoordinatorState}
use Rattle.site.specs.declared.numbers.Arguments.{Arguments}

-- ---- outcomes, presumptions, phases

abbrev pub outcome_in : Outcome → outcomes.Outcome
outcome_in outcome.Commit = outcomes.commit
outcome_in outcome.Abort = outcomes.abort

abbrev pub presumption_in : Presumption → outcomes.Presumption
presumption_in presumption.Abort = outcomes.presumed_abort
presumption_in presumption.Commit = outcomes.presumed_commit

abbrev pub coordinator_in : CoordinatorPhase → coordinator-step.CoordinatorPhase
coordinator_in coordinator.Open = coordinator-step.initial
coordinator_in (coordinator.Collecting w) = coordinator-step.collecting w
coordinator_in (coordinator.Committing w) = coordinator-step.awaiting_acks outcomes.commit w
coordinator_in (coordinator.Aborting w) = coordinator-step.awaiting_acks outcomes.abort w
coordinator_in coordinator.Unknown = coordinator-step.unknown

abbrev pub participant_in : ParticipantPhase → participant-step.ParticipantPhase
participant_in participant.Working = participant-step.working
participant_in participant.Prepared = participant-step.prepared
participant_in participant.Committed = participant-step.decided outcomes.commit
participant_in participant.Aborted = participant-step.decided outcomes.abort
participant_in participant.Unknown = participant-step.unknown

-- its phase and the set taken out
abbrev pub coordinator_state_in : CoordinatorState → coordinator-step.Coordinator
coordinator_state_in c = record { phase = coordinator_in c.phase; taken_out = c.taken_out }

abbrev pub cohort_in : members.Cohort → Cohort
cohort_in c = record { members = c.members; presume_commit = c.presume_commit }

-- a set of record kinds, bit k for kind k
unfoldable pub has_kind : ℕ → ℕ → Bool
has_kind kinds k = eqb (kinds / 2 ^ k % 2) 1

-- ---- the effects that a row's numbers stand for in transaction t, in their order: 0 is none, and what is no outcome or message has no effect.
-- There is no message where the set is empty. The order of sends is the definitions' own, `ordered`: whoever performs a row keeps to it

unfoldable pub sending : ℕ → ℕ → ℕ → ℕ → List Effect
sending t kind owing to = given (leb kind 7) (map (send (get_or messages kind prepare)) (ordered t owing to))

-- a record has as many of two fields as its kind
abbrev pub fields_by : ℕ → ℕ → ℕ → List ℕ
fields_by kind first second = take (length_of kind - 2) (first ∷ second ∷ [])

unfoldable pub closing : ℕ → List Effect → List Effect
closing zero es = es
closing (suc k) es = es ++ append (suc k) (fields_by (suc k) 0 0) ∷ []

unfoldable pub effects_in : ℕ → Effects → List Effect
effects_in t e =
    numbers.appending e.appended (fields_by e.appended e.first e.second)
    ++ (given e.forced (force ∷ []) ++ (numbers.entry_of e.entered ++ closing e.last (sending t e.message e.owing e.to)))

abbrev pub summary_in : Summary → numbers.Summary
summary_in x = record { first = x.first; last = x.last; forced = x.forced; entered = x.entered; message = x.message; to = x.to }

-- ---- rows and answers, by what the state after a row stands for

abbrev pub row_in : {S P : Type 0} → (S → P) → ℕ → answered-row.Row S → Row P
row_in read t r = record { effects = effects_in t r.effects; phase = read r.after }

abbrev pub found_in : {S P : Type 0} → (S → P) → ℕ → Option (answered-row.Row S) → options.Option (Row P)
found_in read t None = options.none
found_in read t (Some r) = options.some (row_in read t r)

abbrev pub answer_in : {S P : Type 0} → (S → P) → ℕ → Result (Option (answered-row.Row S)) Refused → Answer P
answer_in read t (Ok None) = no_row
answer_in read t (Ok (Some r)) = row (row_in read t r)
answer_in read t (Err e) = refused

abbrev pub coordinator_row_in : ℕ → answered-row.Row CoordinatorState → Row coordinator-step.Coordinator
coordinator_row_in = row_in coordinator_state_in

abbrev pub participant_row_in : ℕ → answered-row.Row ParticipantPhase → Row participant-step.ParticipantPhase
participant_row_in = row_in participant_in

abbrev pub coordinator_answer_in : ℕ → Result (Option (answered-row.Row CoordinatorState)) Refused → Answer coordinator-step.Coordinator
coordinator_answer_in = answer_in coordinator_state_in

abbrev pub participant_answer_in : ℕ → Result (Option (answered-row.Row ParticipantPhase)) Refused → Answer participant-step.ParticipantPhase
participant_answer_in = answer_in participant_in

-- at restart there is always a row for a participant
abbrev pub participant_restart_in : ℕ → Result (answered-row.Row ParticipantPhase) Refused → Answer participant-step.ParticipantPhase
participant_restart_in t (Ok r) = row (participant_row_in t r)
participant_restart_in t (Err e) = refused

-- ---- the call's arguments

abbrev pub arguments_in : ℕ → ℕ → ℕ → ℕ → ℕ → ℕ → ℕ → ℕ → ℕ → ℕ → ℕ → numbers.Arguments
arguments_in s k t p q ph w m pc mark out =
    record {
      site = s;
      kind = k;
      transaction = t;
      participant = p;
      presumption = q;
      phase = ph;
      waiting = w;
      cohort = record { members = m; presume_commit = pc };
      mark = mark;
      taken_out = out;
    }

abbrev pub call_in : Arguments → numbers.Arguments
call_in a =
    arguments_in a.site a.kind a.transaction a.participant a.presumption a.phase a.waiting a.cohort.members a.cohort.presume_commit a.mark a.taken_out
