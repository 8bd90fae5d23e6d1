-- Laws and definitions that the check tries together: a function of src/ names them. Assumes nothing.
use Rattle.codec.specs.Records.{lengths, length_of}
use Rattle.codec.specs.Laws.Listed.{size-most}
use Rattle.site.specs.Step.{messages, given, answer_number}
use Rattle.site.specs.Cohort.{masks_of}
use Rattle.site.specs.Coordinator.{tell_all, in_order}
use Rattle.site.specs.Numbers.{appending, entry_of, row_values, no_values, packed, summary, summary_behind, coordinator_result, coordinator_values, participant_result, participant_values}
use Rattle.site.specs.Answers.{effects_in, closing, sending}
use Rattle.site.specs.Laws.Order.{ordered-none}
use Rattle.site.proofs.Sent.{ordered_by_turn, sending-kind, own_sent_if, number-sent}
use Rattle.site.proofs.Rows.{entering_outcome, outcome-appended}
use Rattle.site.proofs.Cut.{no_sends, sending-length}
use Rattle.site.proofs.Accepted.{call_refused, call_coordinator, call_foreign, call_participant, call_beyond, coordinator-refused, coordinator-taken}

-- what the numbers of a row do
unfoldable pub row_opens : Unit {0}
unfolding lengths length_of messages given masks_of tell_all in_order appending entry_of effects_in closing sending
row_opens = tt

-- of an outcome's row its effects alone
unfoldable pub effects_open : Unit {0}
unfolding effects_in closing given
effects_open = tt

-- what the numbers of a result are
unfoldable pub result_opens : Unit {0}
unfolding answer_number row_values no_values packed summary summary_behind coordinator_result coordinator_values participant_result participant_values
result_opens = tt

-- the records and the messages of a row
pub ruleset rows = (ordered-none, ordered_by_turn, sending-kind, entering_outcome)

-- what a participant sends
pub ruleset own = (ordered-none, own_sent_if, number-sent, entering_outcome, outcome-appended)

-- how many messages
pub ruleset counts = (no_sends, sending-length, size-most)

-- a call's answer
pub ruleset calls = (call_refused, call_coordinator, call_foreign, call_participant, call_beyond)

-- the coordinator's
pub ruleset coordinator_calls = (coordinator-refused, coordinator-taken)
