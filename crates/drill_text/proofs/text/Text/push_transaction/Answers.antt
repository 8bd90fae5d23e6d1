use Rattle.std.proofs.Common.{refl}
use Rattle.joint.specs.Answers.{run_in}
use Rattle.codec.specs.Laws.Stored.{next_last}
use Rattle.drill_text.proofs.Pushed.{front, left_start, left_room, left_next, left_end}
use Rattle.drill_text.proofs.Texts.{head_next}
use Rattle.drill_text.proofs.text.Text.push_transaction.Goals as goal

pub push-requires : goal.push-requires
push-requires c = left_room (left_start {t = c.args.self.now} c.requires.1) (head_next (run_in c.args.run.now) c.args.transaction c.requires.0)

pub push_letters-requires : goal.push_letters-requires
push_letters-requires c = left_room (left_next (left_start c.requires.1) (head_next (run_in c.args.run.now) c.args.transaction c.requires.0) c.push.ensures) front

pub push-requires-2 : goal.push-requires-2
push-requires-2 c = left_room (left_next (left_next (left_start c.requires.1) (head_next (run_in c.args.run.now) c.args.transaction c.requires.0) c.push.ensures) front c.push_letters.ensures) next_last

pub returns : goal.returns
returns c = left_end (left_next (left_next (left_next (left_start c.requires.1) (head_next (run_in c.args.run.now) c.args.transaction c.requires.0) c.push.ensures) front c.push_letters.ensures) next_last c.push-2.ensures) refl
