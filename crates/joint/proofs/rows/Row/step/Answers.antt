use Rattle.joint.specs.Answers.{transaction_in}
use Rattle.joint.specs.Inside.{MayReceive}
use Rattle.joint.proofs.Engine.Rows.{own_message}
use Rattle.joint.proofs.rows.Row.step.Goals as goal

pub coordinator_step-requires : goal.coordinator_step-requires
unfolding MayReceive
coordinator_step-requires c = rw c.if-site-eq0.true at c.requires

pub returns-then-site-eq0 : goal.returns-then-site-eq0
returns-then-site-eq0 c = rw c.if-site-eq0.true c.coordinator_step.ensures

pub participant_step-requires : goal.participant_step-requires
participant_step-requires c =
    let a = c.args in
    let h = own_message (transaction_in a.transaction) a.site.number a.kind a.participant c.requires c.if-site-eq0.false in
    (h.0, h.1.1)

pub returns : goal.returns
returns c =
    let a = c.args in
    let h = own_message (transaction_in a.transaction) a.site.number a.kind a.participant c.requires c.if-site-eq0.false in
    rw h.1.0 c.participant_step.ensures
