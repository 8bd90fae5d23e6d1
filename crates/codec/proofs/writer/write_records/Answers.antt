use mathlib.Core.Path.{ap}
use mathlib.Core.List.{flatten}
use Prim.Native.Nat.{◌+◌}
use Rattle.codec.specs.Laws.Stored.{left_end, left-part, left_put}
use Rattle.codec.proofs.InTurn.{bytes_end, flat_next, counted_next, sum_fits}
use Rattle.codec.proofs.writer.write_records.Goals as goal

pub write_record-requires : goal.write_record-requires
write_record-requires c = let i = c.loop-record.invariant in left-part i.1 (flat_next i.0 c.loop-record-test.true)

pub overflow_add-at : goal.overflow_add-at
overflow_add-at c = sum_fits c.loop-record.invariant.0 c.loop-record-test.true c.length-at.ensures

pub loop-record-preserved : goal.loop-record-preserved
loop-record-preserved c =
    let i = c.loop-record.invariant in (
      counted_next i.0 c.loop-record-test.true c.length-at.ensures,
      left_put i.1 (flat_next i.0 c.loop-record-test.true) _ (ap (c.loop-record.at +◌) c.length-at.ensures) _ c.write_record.ensures,
    )

pub returns : goal.returns
unfolding flatten
returns c = let i = c.loop-record.invariant in left_end i.1 (ap flatten (bytes_end i.0 c.loop-record-test.false))
