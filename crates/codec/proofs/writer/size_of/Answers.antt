use mathlib.Core.Path.{refl, ap}
use mathlib.Core.List.{flatten}
use native.Mathlib.Omega.{arith}
use lib.ListN.{length, length-append}
use Rattle.codec.proofs.InTurn.{bytes_end, flat_next, counted_head, counted_next, sum_fits}
use Rattle.codec.proofs.writer.size_of.Goals as goal

pub loop-record-init : goal.loop-record-init
loop-record-init c = (counted_head c.requires c.head_length-size.ensures, refl)

pub overflow_add-size : goal.overflow_add-size
overflow_add-size c = sum_fits c.loop-record.invariant.0 c.loop-record-test.true c.length-size.ensures

pub loop-record-preserved : goal.loop-record-preserved
loop-record-preserved c =
    let i = c.loop-record.invariant in
    let more = simp length-append at (ap length (flat_next i.0 c.loop-record-test.true).split) in
    (counted_next i.0 c.loop-record-test.true c.length-size.ensures, omega (arith, i.1, c.length-size.ensures))

pub returns : goal.returns
unfolding flatten
returns c =
    let i = c.loop-record.invariant in
    let none = ap length (ap flatten (bytes_end i.0 c.loop-record-test.false)) in
    omega (arith, none, i.1, c.head_length-size.ensures)
