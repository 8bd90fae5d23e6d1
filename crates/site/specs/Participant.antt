-- A participant's step (01: a box, P1 to P4 of 002): participant p, with its presumption.
use Rattle.std.specs.Prelude.{ℕ, Bool, true, false, List, [], ◌∷◌, ◌++◌}
use Rattle.std.proofs.Math.Option.{Option, none, some}
use Rattle.site.specs.Presumption.{Outcome, commit, abort, same_outcome, Presumption, acks, presumption_number}
use Rattle.site.specs.Step.{Message, prepare, vote_yes, vote_no, read_only, tell, ack, Input, begin, timer, received, Effect, append, force, enter, send, Row, given}

-- `decided commit` is 01's Committed, `decided abort` its Aborted.
pub data ParticipantPhase : Type 0 where
  working prepared : ParticipantPhase
  decided : Outcome → ParticipantPhase
  unknown : ParticipantPhase

-- the record of an outcome: Committed, Aborted
unfoldable pub outcome_record : Outcome → ℕ
outcome_record commit = 6
outcome_record abort = 7

module _ (presumption : Presumption) (p : ℕ) where
  -- ---- Prepare

  unfoldable pub voting : ParticipantPhase → Message → Row ParticipantPhase
  voting phase vote = record { effects = send vote p ∷ []; phase = phase }

  -- the first Yes
  unfoldable pub promising : Row ParticipantPhase
  promising = record { effects = append 5 (presumption_number presumption ∷ []) ∷ force ∷ send vote_yes p ∷ []; phase = prepared }

  -- one that only looked (it is marked) sends a read-only vote, writes nothing and is Unknown
  unfoldable pub first_vote : Bool → Row ParticipantPhase
  first_vote true = voting unknown read_only
  first_vote false = promising

  -- the mark means something in Working alone
  unfoldable pub on_prepare : Bool → ParticipantPhase → Option (Row ParticipantPhase)
  on_prepare mark working = some (first_vote mark)
  on_prepare mark prepared = some (voting prepared vote_yes)
  on_prepare mark (decided commit) = none
  on_prepare mark (decided abort) = some (voting (decided abort) vote_no)
  on_prepare mark unknown = some (voting unknown vote_no)

  -- ---- Commit, Abort

  unfoldable pub acking : Outcome → List Effect
  acking o = given (acks presumption o) (send (ack o) p ∷ [])

  -- the outcome is new; whether its record is forced
  unfoldable pub finish : Bool → Outcome → Row ParticipantPhase
  finish forces o = record { effects = append (outcome_record o) [] ∷ given forces (force ∷ []) ++ enter o ∷ acking o; phase = decided o }

  -- the outcome is not new: the phase stays
  unfoldable pub acknowledging : Outcome → ParticipantPhase → Row ParticipantPhase
  acknowledging o phase = record { effects = acking o; phase = phase }

  -- the outcome that it has already, or the other one
  unfoldable pub acking_if : Bool → Outcome → Option (Row ParticipantPhase)
  acking_if true o = some (acknowledging o (decided o))
  acking_if false o = none

  unfoldable pub on_tell : Outcome → ParticipantPhase → Option (Row ParticipantPhase)
  on_tell commit working = none
  on_tell abort working = some (finish (acks presumption abort) abort)
  on_tell o prepared = some (finish (acks presumption o) o)
  on_tell o (decided d) = acking_if (same_outcome o d) o
  on_tell o unknown = some (acknowledging o unknown)

  -- ---- timer

  unfoldable pub participant_timer : ParticipantPhase → Option (Row ParticipantPhase)
  participant_timer working = some (record { effects = enter abort ∷ []; phase = unknown })
  participant_timer prepared = some (voting prepared vote_yes)
  participant_timer (decided o) = none
  participant_timer unknown = none

  -- ---- the step: `none` is no row. Whether the participant is marked as one that only looked

  unfoldable pub participant_step : Bool → Input → ParticipantPhase → Option (Row ParticipantPhase)
  participant_step mark begin x = none
  participant_step mark timer x = participant_timer x
  participant_step mark (received prepare q) x = on_prepare mark x
  participant_step mark (received vote_yes q) x = none
  participant_step mark (received vote_no q) x = none
  participant_step mark (received read_only q) x = none
  participant_step mark (received (tell o) q) x = on_tell o x
  participant_step mark (received (ack o) q) x = none

  -- ---- restart

  -- whether there is a record 6; a record 7; a record 5
  unfoldable pub restart_with : Bool → Bool → Bool → Row ParticipantPhase
  restart_with true a v = record { effects = enter commit ∷ []; phase = decided commit }
  restart_with false true v = record { effects = enter abort ∷ []; phase = decided abort }
  restart_with false false true = voting prepared vote_yes
  restart_with false false false = record { effects = []; phase = unknown }

  -- by the kinds of record that the stable log has of the transaction
  unfoldable pub participant_restart : (ℕ → Bool) → Row ParticipantPhase
  participant_restart has = restart_with (has 6) (has 7) (has 5)
