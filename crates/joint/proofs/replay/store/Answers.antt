use native.Mathlib.Omega.{arith}
use Prim.Native.Nat.{◌+◌, ◌-◌}
use mathlib.Core.Path.{◌≡◌}
use lib.Seq.{drop-drop}
use Rattle.std.proofs.Common.{append_assoc}
use Rattle.codec.specs.Image.{stored}
use Rattle.joint.specs.Drill.{answer_bytes}
use Rattle.joint.proofs.replay.store.Goals as goal

pub returns-in-Ok : goal.returns-in-Ok
unfolding stored answer_bytes
returns-in-Ok c =
    let four : c.args.at + 4 - c.args.at ≡ 4 = omega arith in
    rw (c.in-Ok.is, c.copy_from_slice.ensures.after, c.bytes.ensures, four, drop-drop) (simp append_assoc)

pub returns-in-Err : goal.returns-in-Err
unfolding stored answer_bytes
returns-in-Err c =
    let four : c.args.at + 4 - c.args.at ≡ 4 = omega arith in
    rw (c.in-Err.is, c.copy_from_slice-in-Err.ensures.after, c.bytes-in-Err.ensures, four, drop-drop) (simp append_assoc)
