use mathlib.Core.Path.{◌≡◌}
use lib.ListN.{length}
use Rattle.joint.proofs.Engine.Walks.{Collected}
use Rattle.joint.proofs.records.kinds.Given as goal

abbrev pub invariant-loop-x : goal.invariant-loop-x
invariant-loop-x l = (length l.kinds ≡ 8) × Collected l.records l.kinds l.x-index
