use Prim.Native.Nat.{◌+◌, ◌≤◌}
use mathlib.Core.List.{map}
use Rattle.codec.specs.Answers.{record_in}
use Rattle.joint.proofs.Engine.Survives.{kept, Passing}
use Rattle.joint.proofs.records.Records.stop.Given as goal

abbrev pub invariant-loop-place : goal.invariant-loop-place
invariant-loop-place l =
    (l.stable + l.unforced ≤ 24) × Passing (kept l.keep l.stable l.unforced (map record_in l.initial.records)) l.records l.keep l.stable l.unforced l.to l.place
