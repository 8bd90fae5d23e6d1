use mathlib.Core.Path.{refl}
use borrow.Author.Rules.{rules}
use Rattle.joint.proofs.Engine.Inputs.{goes_to}
use Rattle.joint.proofs.events.receiver.Goals as goal

pub returns-then-inward : goal.returns-then-inward
returns-then-inward c = let a = c.args in rw (goes_to a.kind a.participant.number (search rules), c.if-inward.true) refl

pub returns : goal.returns
returns c = let a = c.args in rw (goes_to a.kind a.participant.number (search rules), c.if-inward.false) refl
