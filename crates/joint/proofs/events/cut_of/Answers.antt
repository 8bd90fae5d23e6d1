use mathlib.Core.Path.{refl}
use borrow.Author.Tests.{eq-eqb, ne_eqb}
use Rattle.joint.specs.Event.{cut_at}
use Rattle.joint.proofs.events.cut_of.Goals as goal

pub returns-then-cut-eq-NO_CUT : goal.returns-then-cut-eq-NO_CUT
unfolding cut_at
returns-then-cut-eq-NO_CUT c = rw (eq-eqb c.args.cut 255 c.if-cut-eq-NO_CUT.true) refl

pub returns : goal.returns
unfolding cut_at
returns c = rw (ne_eqb c.args.cut 255 c.if-cut-eq-NO_CUT.false) refl
