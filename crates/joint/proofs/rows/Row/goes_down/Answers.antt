use Rattle.joint.specs.Inside.{goes_down}
use Rattle.joint.proofs.Engine.Rows.{not-down}
use borrow.Author.Rules.{rules}
use Rattle.joint.proofs.rows.Row.goes_down.Goals as goal

pub returns-in-Down : goal.returns-in-Down
unfolding goes_down
returns-in-Down c = search rules

pub returns-in_default : goal.returns-in_default
returns-in_default c = not-down c.args.self.then c.in_default.not-Down
