use mathlib.Core.Path.{ap₂, ◌∙◌}
use Rattle.joint.specs.Totals.{totals_of}
use Rattle.joint.specs.Answers.{totals_in}
use Rattle.joint.proofs.run.Run.totals.Goals as goal

pub returns : goal.returns
unfolding totals_in
returns c = c.of.ensures ∙ ap₂ totals_of c.forces.ensures c.handovers.ensures
