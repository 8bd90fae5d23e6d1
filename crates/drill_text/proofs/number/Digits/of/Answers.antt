use Prim.Native.Nat.{◌-◌}
use mathlib.Core.Path.{◌∙◌}
use lib.ListN.{length-set}
use native.Mathlib.Omega.{arith}
use Rattle.drill_text.proofs.Decimal.{ended_more, ended_next, ended_last}
use Rattle.drill_text.proofs.number.Digits.of.Goals as goal

pub loop-rest-preserved : goal.loop-rest-preserved
loop-rest-preserved c =
    let l = c.loop-rest in
    ended_next l.invariant (l.from - 1) (omega (arith, ended_more l.invariant c.loop-rest-test.true)) c.loop-rest-test.true

pub returns : goal.returns
returns c =
    let i = c.loop-rest.invariant in
    ((i.most, length-set c.loop-rest.of _ _ ∙ i.size), ended_last i (omega (arith, c.loop-rest-test.false)))
