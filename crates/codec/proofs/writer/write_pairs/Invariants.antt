use Prim.Native.Nat.{◌*◌}
use Rattle.codec.specs.Image.{pair_table}
use Rattle.codec.specs.Inside.{bytes_in}
use Rattle.codec.specs.Laws.Stored.{Left}
use Rattle.codec.proofs.InTurn.{Counted, bytes_from}
use Rattle.codec.proofs.writer.write_pairs.Given as goal

abbrev pub invariant-loop-i : goal.invariant-loop-i
invariant-loop-i l =
    Counted l.records l.i l.offset × Left 0 (pair_table l.initial.offset (bytes_in l.records)) l.initial.out (4 * l.i) (pair_table l.offset (bytes_from l.records l.i)) l.out
