use Prim.Native.Nat.{◌+◌}
use mathlib.Core.Path.{◌≡◌}
use native.Mathlib.Omega.{arith}
use lib.ListN.{length}
use Rattle.joint.proofs.Engine.Arrays.{length-shown}
use Rattle.joint.proofs.Engine.Survives.{passing_starts, passing_next, passing_ends}
use Rattle.joint.proofs.records.Records.stop.Goals as goal

pub loop-place-init : goal.loop-place-init
loop-place-init c =
    let s = c.args in
    let all : length s.self.of ≡ 24 = search length-shown in
    (omega arith, passing_starts s.keep c.stable_count-stable.result c.unforced_count-unforced.result s.self.of (omega arith))

pub loop-place-preserved : goal.loop-place-preserved
loop-place-preserved c =
    let l = c.loop-place in
    (omega arith, rw c.from.ensures (passing_next _ l.records c.args.keep c.stable_count-stable.result c.unforced_count-unforced.result l.to l.place (l.place + 1) (omega arith) (omega arith) l.invariant.1))

pub returns : goal.returns
returns c =
    let s = c.args in
    let l = c.loop-place in
    let all : length s.self.of ≡ 24 = search length-shown in
    passing_ends s.site s.self.of s.keep all l.records c.stable_count-stable.result c.unforced_count-unforced.result l.to l.place
    c.stable_count-stable.ensures c.unforced_count-unforced.ensures (omega arith) l.invariant.1
