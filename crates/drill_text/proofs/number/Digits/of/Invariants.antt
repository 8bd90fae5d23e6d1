use Rattle.drill_text.proofs.Decimal.{Ended}
use Rattle.drill_text.proofs.number.Digits.of.Given as goal

abbrev pub invariant-loop-rest : goal.invariant-loop-rest
invariant-loop-rest l = Ended l.n l.of l.rest l.from

abbrev pub decreases-loop-rest : goal.decreases-loop-rest
decreases-loop-rest l = l.from
