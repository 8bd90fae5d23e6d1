use mathlib.Core.List.{map}
use Rattle.codec.specs.Answers.{record_in}
use Rattle.joint.proofs.Engine.Resuming.{Resuming}
use Rattle.joint.proofs.restarts.resume_all.Given as goal

abbrev pub invariant-loop-i : goal.invariant-loop-i
invariant-loop-i l = Resuming l.site.number l.cut l.kinds (map record_in l.records) l.initial.transaction-items l.transaction-items l.left l.sends l.i
