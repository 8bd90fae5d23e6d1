use mathlib.Core.List.{flatten}
use Rattle.codec.specs.Inside.{bytes_in}
use Rattle.codec.specs.Laws.Stored.{Left}
use Rattle.codec.proofs.InTurn.{Counted, bytes_from}
use Rattle.codec.proofs.writer.write_records.Given as goal

abbrev pub invariant-loop-record : goal.invariant-loop-record
invariant-loop-record l =
    Counted l.records l.record-index l.at × Left 0 (flatten (bytes_in l.records)) l.initial.out l.at (flatten (bytes_from l.records l.record-index)) l.out
