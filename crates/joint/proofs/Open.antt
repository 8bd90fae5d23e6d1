-- What a theorem by computation opens: `unfolding codec_opens site_opens joint_opens` unfolds every definition that the plain run is made of
-- (`codec_opens` and `site_opens` stand in the specs of those crates).
use Rattle.joint.specs.State.{fresh, update, at_site, at_transaction, opened, takes_part, holds, recorded_cohort, appended, forced, survivors, may_keep, stopped, started, with_coordinator, with_participant, with_marked, with_sent, with_entered, forgotten, down, perform, perform_all}
use Rattle.joint.specs.Event.{event_length, event_of, ranges, bytes_in_range, cut_in_range, cut_at, cut_of, parse}
use Rattle.joint.specs.Refusals.{unopened, stranger, is_down, refusals}
use Rattle.joint.specs.Plan.{acting, row_plan, planned, step, or_nothing, opened_as, closes, newest, closed, may_discard, drop_oldest, trimmed, remembers, forgotten_unless, discard, transactions, restarting, joined, restart_all, is_working, plan}
use Rattle.joint.specs.Run.{refuse, partly, can_cut, cut_short, carry, carry_plan, carry_unless, event_parsed, event, after, site_image, is_append, is_force, is_send, count, answer_of, answers}
use Rattle.joint.specs.Safety.{moments, happened, history, steps, accepts}
use Rattle.joint.specs.Totals.{highest, held, is_force_at, forces_at, is_opening_with, openings_with, totals_of, totals}
use Rattle.joint.specs.Drill.{chunks, events_of, events_in, space, newline, decimal, line, event_lines, ascii, letter, entry_letter, transaction_line, totals_line, drill}

unfoldable pub joint_opens : Unit {0}
unfolding fresh update at_site at_transaction opened takes_part holds recorded_cohort appended forced survivors may_keep stopped started with_coordinator with_participant with_marked with_sent with_entered forgotten down perform perform_all event_length event_of ranges bytes_in_range cut_in_range cut_at cut_of parse unopened stranger is_down refusals acting row_plan planned step or_nothing opened_as closes newest closed may_discard drop_oldest trimmed remembers forgotten_unless discard transactions restarting joined restart_all is_working plan refuse partly can_cut cut_short carry carry_plan carry_unless event_parsed event after site_image is_append is_force is_send count answer_of answers moments happened history steps accepts highest held is_force_at forces_at is_opening_with openings_with totals_of totals chunks events_of events_in space newline decimal line event_lines ascii letter entry_letter transaction_line totals_line drill
joint_opens = tt
