use Rattle.std.specs.Prelude as std
use Rattle.joint.specs.Plan.{planned, row_plan}
use Rattle.joint.specs.Answers.{transaction_in}
use Rattle.joint.specs.Inside.{found_in, then_in}
use Rattle.joint.proofs.Engine.Rows.{coordinator_found}
use Rattle.joint.proofs.rows.Row.coordinator_step.Goals as goal

pub returns-in_default : goal.returns-in_default
unfolding found_in planned
returns-in_default c = λ w t own.
    coordinator_found (transaction_in c.args.transaction) c.coordinator-coordinator.result c.coordinator-coordinator.ensures w t own c.args.kind c.args.participant
    (std.Err c.in_default.field-0) c.requires (rw c.in_default.is at (c.step.ensures t))

pub returns-in_err-row : goal.returns-in_err-row
unfolding found_in planned
returns-in_err-row c = λ w t own.
    rw c.from_residual.ensures
    (coordinator_found (transaction_in c.args.transaction) c.coordinator-coordinator.result c.coordinator-coordinator.ensures w t own c.args.kind c.args.participant
    (std.Ok std.None) c.requires (rw (c.in-Ok.is, c.in_err-row.was) at (c.step.ensures t)))

pub returns : goal.returns
unfolding found_in planned row_plan then_in
returns c = λ w t own.
    coordinator_found (transaction_in c.args.transaction) c.coordinator-coordinator.result c.coordinator-coordinator.ensures w t own c.args.kind c.args.participant
    (std.Ok (std.Some c.in_ok-row.row)) c.requires (rw (c.in-Ok.is, c.in_ok-row.was) at (c.step.ensures t))
