use Rattle.std.proofs.Common.{arith}
use Rattle.joint.specs.Answers.{run_in}
use Rattle.drill_text.proofs.Pushed.{left_room, left_next, left_end}
use Rattle.drill_text.proofs.Texts.{letter_next, letters_end}
use Rattle.drill_text.proofs.text.Text.push_letters.Goals as goal

pub push-requires : goal.push-requires
push-requires c = left_room c.loop-site.invariant (letter_next (run_in c.args.run.now) c.args.transaction c.loop-site.site _ (omega arith) c.entry_letter.ensures)

pub loop-site-preserved : goal.loop-site-preserved
loop-site-preserved c =
    left_next c.loop-site.invariant (letter_next (run_in c.args.run.now) c.args.transaction c.loop-site.site _ (omega arith) c.entry_letter.ensures) c.push.ensures

pub returns : goal.returns
returns c = left_end c.loop-site.invariant (letters_end (run_in c.args.run.now) c.args.transaction c.loop-site.site (omega arith))
