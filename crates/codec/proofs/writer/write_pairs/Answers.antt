use mathlib.Core.Path.{ap}
use native.Mathlib.Nat.{mul-add}
use native.Mathlib.Omega.{arith}
use Rattle.codec.specs.Image.{word, pair_table}
use Rattle.codec.specs.Laws.Stored.{left_front, left_end, left-part, left_put}
use Rattle.codec.proofs.InTurn.{bytes_end, table_next, counted_head, counted_next, sum_fits, pair_small}
use Rattle.codec.proofs.writer.write_pairs.Goals as goal

pub loop-i-init : goal.loop-i-init
loop-i-init c = (counted_head c.requires.few c.head_length-offset.ensures, left_front (rw c.head_length-offset.ensures c.requires.room))

pub overflow_cast-length : goal.overflow_cast-length
overflow_cast-length c = let small = pair_small c.loop-i.invariant.0 c.loop-i-test.true c.length-length.ensures in omega arith

pub write_pair-requires : goal.write_pair-requires
unfolding word
write_pair-requires c = let i = c.loop-i.invariant in left-part i.1 (table_next i.0 c.loop-i-test.true c.length-length.ensures)

pub overflow_add-offset : goal.overflow_add-offset
overflow_add-offset c = sum_fits c.loop-i.invariant.0 c.loop-i-test.true c.length-length.ensures

pub loop-i-preserved : goal.loop-i-preserved
unfolding word
loop-i-preserved c =
    let i = c.loop-i.invariant in (
      counted_next i.0 c.loop-i-test.true c.length-length.ensures,
      left_put i.1 (table_next i.0 c.loop-i-test.true c.length-length.ensures) _ (mul-add 4 _ 1) _ c.write_pair.ensures,
    )

pub returns : goal.returns
unfolding pair_table
returns c =
    let i = c.loop-i.invariant in
    rw (← c.head_length-offset.ensures) (left_end i.1 (ap (pair_table c.loop-i.offset) (bytes_end i.0 c.loop-i-test.false)))
