use Rattle.joint.proofs.Engine.Transactions.{mark-stored}
use Rattle.joint.proofs.transactions.Transaction.with_marked.Goals as goal

pub returns : goal.returns
returns c = let a = c.args in mark-stored a.self a.site.number c.with_bit.result c.with_bit.ensures
