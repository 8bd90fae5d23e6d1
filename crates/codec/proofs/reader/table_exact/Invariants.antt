use Rattle.codec.specs.Laws.Pairs.{Exact}
use Rattle.codec.proofs.reader.table_exact.Given as goal

abbrev pub invariant-loop-i : goal.invariant-loop-i
invariant-loop-i l = Exact l.bytes l.count l.at l.i
