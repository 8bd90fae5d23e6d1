use mathlib.Core.Bool.{not}
use lib.ListN.{get_or}
use Rattle.joint.specs.Answers.{no_site}
use Rattle.joint.proofs.Engine.Ups.{Reached}
use Rattle.joint.proofs.changes.all_up.Given as goal

abbrev pub invariant-loop-i : goal.invariant-loop-i
invariant-loop-i l = Reached (λ s. not (get_or l.sites s no_site).up) l.members l.i
