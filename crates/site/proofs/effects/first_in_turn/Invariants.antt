use Rattle.site.proofs.Turned.{Walked}
use Rattle.site.proofs.effects.first_in_turn.Given as goal

abbrev pub invariant-loop-i : goal.invariant-loop-i
invariant-loop-i l = Walked l.start l.mask l.most l.taken l.left l.i
