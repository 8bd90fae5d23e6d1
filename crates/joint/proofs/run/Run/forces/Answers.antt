use Prim.Native.Nat.{◌<◌}
use mathlib.Core.Path.{◌≡◌}
use native.Mathlib.Omega.{arith}
use lib.ListN.{get_or}
use borrow.Author.Rules.{rules}
use Rattle.joint.specs.Totals.{highest, held}
use Rattle.joint.specs.Answers.{forces_in}
use Rattle.joint.proofs.run.Run.forces.Goals as goal

pub returns : goal.returns
unfolding forces_in held highest
returns c =
    let e : c.unwrap_or.result ≡ get_or c.args.self.now.forces c.args.site 0 = search rules in
    let f : c.unwrap_or.result < 18446744073709551616 = c.unwrap_or.type_inv in
    omega (arith, e, f)
