-- The program's text is as long as the longest drill.
use Rattle.std.proofs.Common.{◌≤◌, length, replicate, ℕ}
use Rattle.std.proofs.lemmas.List.{length-replicate}
use native.Mathlib.Omega.{arith}
use Rattle.drill.proofs.main.Goals as goal

sized : 220924 ≤ length {A = ℕ} (replicate 220924 0)
sized = rw length-replicate (omega arith)

pub lines-size-requires : goal.lines-size-requires
lines-size-requires c = sized
