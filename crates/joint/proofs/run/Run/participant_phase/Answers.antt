use mathlib.Core.Path.{ap, ◌∙◌}
use Rattle.joint.specs.State as plain
use Rattle.joint.proofs.run.Run.participant_phase.Goals as goal

pub returns : goal.returns
returns c =
    let a = c.args in
    c.participant_phase.ensures ∙ ap (λ (x : plain.Transaction). x.participant a.participant) c.transaction.ensures
