-- What a theorem by computation opens: `unfolding codec_opens site_opens` unfolds every definition of one site's step.
use Rattle.site.specs.Presumption.{same_outcome, acks, silence, presumption_number}
use Rattle.site.specs.Cohort.{remaining, masks_of, presumption_of, owing}
use Rattle.site.specs.Step.{messages, message_kind, coordinator_of, receiver, given, answer_number, answered, answer_if}
use Rattle.site.specs.Coordinator.{end_record, until_acked, telling, round, in_turn, ordered, in_order, tell_all, preparing, committing, aborting, resuming, on_begin, voted, counting, on_yes, on_no, coordinator_timer, taking_out, on_read_only, acked, acked_if, on_ack, leaving, leaving_if, coordinator_step, restart_from, coordinator_restart}
use Rattle.site.specs.Participant.{outcome_record, voting, promising, first_vote, on_prepare, acking, finish, acknowledging, acking_if, on_tell, participant_timer, participant_step, restart_with, participant_restart}
use Rattle.site.specs.Numbers.{coordinator_phase, waiting_set, coordinator_from, participant_phase, participant_from, input_of, kinds_received, receives, coordinator_answer, participant_answer, participant_restarted, waiting_in_range, taken_out_in_range, is_member, names_none, in_range_at, arguments_in_range, outcome_number, summary_behind, summary_from, summary, row_values, no_values, coordinator_values, participant_values, refusal, coordinator_result, participant_result, step_at, site_step, fields_of, go_first, entry_of, appending, doing, row_read, done, packed}
use Rattle.site.specs.Answers.{has_kind, closing, sending, effects_in}

unfoldable pub site_opens : Unit {0}
unfolding same_outcome acks silence presumption_number remaining masks_of presumption_of owing messages message_kind coordinator_of receiver given answer_number answered answer_if end_record until_acked telling round in_turn ordered in_order tell_all preparing committing aborting resuming on_begin voted counting on_yes on_no coordinator_timer taking_out on_read_only acked acked_if on_ack leaving leaving_if coordinator_step restart_from coordinator_restart outcome_record voting promising first_vote on_prepare acking finish acknowledging acking_if on_tell participant_timer participant_step restart_with participant_restart coordinator_phase waiting_set coordinator_from participant_phase participant_from input_of kinds_received receives coordinator_answer participant_answer participant_restarted waiting_in_range taken_out_in_range is_member names_none in_range_at arguments_in_range outcome_number summary_behind summary_from summary row_values no_values coordinator_values participant_values refusal coordinator_result participant_result step_at site_step fields_of go_first entry_of appending doing row_read done packed has_kind closing sending effects_in
site_opens = tt
