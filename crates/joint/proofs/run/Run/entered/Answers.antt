use mathlib.Core.Path.{ap, ◌∙◌}
use Rattle.site.specs.Answers.{outcome_in}
use Rattle.joint.specs.State as plain
use Rattle.joint.proofs.run.Run.entered.Goals as goal

pub returns : goal.returns
returns c =
    let a = c.args in
    c.entered.ensures ∙ ap (λ (x : plain.Transaction). x.entered a.site (outcome_in a.outcome)) c.transaction.ensures
