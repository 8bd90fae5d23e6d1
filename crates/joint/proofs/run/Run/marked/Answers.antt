use mathlib.Core.Path.{ap, ◌∙◌}
use Rattle.joint.specs.State as plain
use Rattle.joint.proofs.run.Run.marked.Goals as goal

pub returns : goal.returns
returns c =
    c.marked.ensures ∙ ap (λ (x : plain.Transaction). x.marked c.args.participant) c.transaction.ensures
