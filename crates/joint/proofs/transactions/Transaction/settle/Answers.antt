use mathlib.Core.Path.{refl}
use Rattle.joint.specs.Inside.{then_transaction}
use Rattle.joint.proofs.Engine.Rows.{kept_transaction}
use Rattle.joint.proofs.transactions.Transaction.settle.Goals as goal

pub returns-then-last : goal.returns-then-last
unfolding then_transaction
returns-then-last c = rw (c.in-Discarded.is, c.if-last.true) c.with_participant-then-last.ensures

pub returns-in-Coordinator : goal.returns-in-Coordinator
unfolding then_transaction
returns-in-Coordinator c = rw c.in-Coordinator.is c.with_coordinator.ensures

pub returns-in-Participant : goal.returns-in-Participant
unfolding then_transaction
returns-in-Participant c = rw c.in-Participant.is c.with_participant.ensures

pub returns-in-Opened : goal.returns-in-Opened
unfolding then_transaction
returns-in-Opened c = rw c.in-Opened.is c.«open».ensures

pub returns-else-last : goal.returns-else-last
unfolding then_transaction
returns-else-last c = rw (c.in-Discarded.is, c.if-last.false) refl

pub returns-in-Marked : goal.returns-in-Marked
unfolding then_transaction
returns-in-Marked c = rw c.in-Marked.is c.with_marked.ensures

pub returns-in_default : goal.returns-in_default
returns-in_default c = kept_transaction _ c.args.then _ c.in_default.not-Coordinator c.in_default.not-Participant c.in_default.not-Opened c.in_default.not-Discarded c.in_default.not-Marked
