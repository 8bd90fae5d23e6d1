use Rattle.codec.specs.Sets.{empty}
use borrow.Author.Tests.{ne_eqb}
use Rattle.site.specs.Answers.{effects_in, closing, sending}
use Rattle.site.specs.Numbers.{appending, entry_of}
use Rattle.site.specs.Answers.{outcome_in}
use Rattle.site.specs.Step.{messages, given}
use Rattle.site.specs.Coordinator.{acked}
use Rattle.site.specs.Laws.Order.{ordered-none}
use Rattle.site.proofs.Rows.{end_appended}
use Rattle.site.proofs.coordinator.acked.Goals as goal

pub returns-then-waiting-eq0 : goal.returns-then-waiting-eq0
unfolding acked empty effects_in entry_of closing sending messages given
returns-then-waiting-eq0 c t = rw (c.end_record.ensures, c.if-waiting-eq0.true, end_appended (outcome_in c.args.outcome) 0 0, ordered-none t 0)

pub returns : goal.returns
unfolding acked empty effects_in appending entry_of closing sending messages given
returns c t = rw (c.awaiting.ensures, ne_eqb c.args.waiting 0 c.if-waiting-eq0.false, ordered-none t 0)
