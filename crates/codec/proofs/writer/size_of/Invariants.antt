use mathlib.Core.Path.{◌≡◌}
use mathlib.Core.List.{flatten}
use Prim.Native.Nat.{◌+◌}
use lib.ListN.{length}
use Rattle.codec.specs.Inside.{bytes_in}
use Rattle.codec.proofs.InTurn.{Counted, bytes_from}
use Rattle.codec.proofs.writer.size_of.Given as goal

abbrev pub invariant-loop-record : goal.invariant-loop-record
invariant-loop-record l =
    Counted l.records l.record-index l.size × (l.size + length (flatten (bytes_from l.records l.record-index)) ≡ l.initial.size + length (flatten (bytes_in l.records)))
