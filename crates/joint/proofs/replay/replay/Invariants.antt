use Rattle.joint.specs.Answers.{run_in, forces_in}
use Rattle.joint.proofs.Engine.Replays.{Ahead}
use Rattle.joint.proofs.replay.replay.Given as goal

abbrev pub invariant-loop-i : goal.invariant-loop-i
invariant-loop-i l = Ahead (run_in l.initial.run) (forces_in l.initial.run) l.bytes l.initial.answers l.count l.answers (run_in l.run) (forces_in l.run) l.i
