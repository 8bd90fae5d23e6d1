use mathlib.Core.Path.{◌≡◌}
use lib.ListN.{length}
use native.Mathlib.Omega.{arith}
use Rattle.joint.proofs.Engine.Arrays.{length-shown}
use Rattle.joint.proofs.Engine.Transactions.{phase-stored}
use Rattle.joint.proofs.transactions.Transaction.with_participant.Goals as goal

pub returns : goal.returns
returns c =
    let a = c.args in
    let n : length a.self.participants ≡ 9 = search length-shown in
    rw c.index.ensures (phase-stored a.self a.site.number (omega (arith, n, a.site.in_range)) a.phase)
