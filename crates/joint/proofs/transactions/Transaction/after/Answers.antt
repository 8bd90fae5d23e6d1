use mathlib.Core.Path.{ap, sym, ◌∙◌}
use Rattle.site.specs.Answers.{sending}
use Rattle.joint.specs.Answers.{transaction_in}
use Rattle.joint.specs.Inside.{transaction_after}
use Rattle.joint.proofs.Engine.Effects.{transaction-row}
use Rattle.joint.proofs.transactions.Transaction.after.Goals as goal

pub returns : goal.returns
returns c t =
    let a = c.args in
    c.send.ensures a.site.number t a.effects.owing
    ∙ ap (transaction_after a.site.number (sending t a.effects.message a.effects.owing a.effects.to)) c.enter.ensures
    ∙ sym (transaction-row a.site.number t (transaction_in a.self) a.effects)
