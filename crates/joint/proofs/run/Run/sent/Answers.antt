use mathlib.Core.Path.{ap, ◌∙◌}
use Rattle.joint.specs.State as plain
use Rattle.joint.proofs.run.Run.sent.Goals as goal

pub returns : goal.returns
returns c =
    let a = c.args in
    c.sent.ensures ∙ ap (λ (x : plain.Transaction). x.sent a.participant a.kind) c.transaction.ensures
