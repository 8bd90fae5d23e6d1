use Rattle.std.specs.Prelude as std
use Rattle.joint.specs.Plan.{planned, row_plan}
use Rattle.joint.specs.Inside.{found_in, then_in}
use Rattle.joint.proofs.Engine.Rows.{participant_found}
use Rattle.joint.proofs.rows.Row.participant_step.Goals as goal

pub returns-in_default : goal.returns-in_default
unfolding found_in planned
returns-in_default c = λ w t own.
    let r = c.participant-participant in
    participant_found c.args.transaction w t own c.args.site.number c.requires.0 c.args.site.in_range r.result r.ensures.0 r.ensures.1.0 r.ensures.1.1.0 r.ensures.1.1.1
    c.args.kind (std.Err c.in_default.field-0) c.requires.1 (rw c.in_default.is at (c.step.ensures t))

pub returns-in_err-row : goal.returns-in_err-row
unfolding found_in planned
returns-in_err-row c = λ w t own.
    let r = c.participant-participant in
    rw c.from_residual.ensures
    (participant_found c.args.transaction w t own c.args.site.number c.requires.0 c.args.site.in_range r.result r.ensures.0 r.ensures.1.0 r.ensures.1.1.0 r.ensures.1.1.1
    c.args.kind (std.Ok std.None) c.requires.1 (rw (c.in-Ok.is, c.in_err-row.was) at (c.step.ensures t)))

pub returns : goal.returns
unfolding found_in planned row_plan then_in
returns c = λ w t own.
    let r = c.participant-participant in
    participant_found c.args.transaction w t own c.args.site.number c.requires.0 c.args.site.in_range r.result r.ensures.0 r.ensures.1.0 r.ensures.1.1.0 r.ensures.1.1.1
    c.args.kind (std.Ok (std.Some c.in_ok-row.row)) c.requires.1 (rw (c.in-Ok.is, c.in_ok-row.was) at (c.step.ensures t))
