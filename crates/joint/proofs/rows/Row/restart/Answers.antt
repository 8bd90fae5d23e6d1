use Prim.Native.Nat.{◌≤◌}
use mathlib.Core.Path.{ap, sym, ◌∙◌}
use mathlib.Core.Bool.{cond}
use native.Mathlib.Omega.{arith}
use Rattle.site.specs.Answers.{cohort_in, has_kind}
use Rattle.std.specs.Prelude as std
use Rattle.joint.specs.State.{recorded_cohort}
use Rattle.joint.specs.Plan.{planned, row_plan}
use Rattle.joint.specs.Inside.{then_in}
use Rattle.joint.proofs.Engine.Rows.{coordinator_restarts, participant_restarts, some-none, some_same}
use Rattle.joint.proofs.rows.Row.restart.Goals as goal

pub returns-then-site-eq0 : goal.returns-then-site-eq0
unfolding row_plan then_in
returns-then-site-eq0 c = λ w own h log.
    let a = c.args in
    let told = rw c.has.ensures at c.cohort.ensures ∙ ap (recorded_cohort a.t (cond (has_kind a.kinds 2) 2 1)) (rw c.if-site-eq0.true at log) in
    rw c.if-site-eq0.true (coordinator_restarts w a.t (has_kind a.kinds) (cohort_in c.cohort.result) c.restart-row.result (c.restart-row.ensures a.t) (rw c.if-site-eq0.true at h) told)

pub returns-in_default : goal.returns-in_default
unfolding planned
returns-in_default c = λ w own h log.
    let r = c.participant-participant in
    let low : 1 ≤ c.args.site.number = omega (arith, c.if-site-eq0.false) in
    absurd (some-none (sym (participant_restarts c.args.transaction w c.args.t own c.args.site.number low c.args.site.in_range r.result r.ensures.0 r.ensures.1.0 r.ensures.1.1.0 r.ensures.1.1.1
    (has_kind c.args.kinds) (std.Err c.in_default.field-0) (rw c.in_default.is at (c.restart.ensures c.args.t)) h)))

pub returns : goal.returns
unfolding planned row_plan then_in
returns c = λ w own h log.
    let r = c.participant-participant in
    let low : 1 ≤ c.args.site.number = omega (arith, c.if-site-eq0.false) in
    some_same (participant_restarts c.args.transaction w c.args.t own c.args.site.number low c.args.site.in_range r.result r.ensures.0 r.ensures.1.0 r.ensures.1.1.0 r.ensures.1.1.1
    (has_kind c.args.kinds) (std.Ok c.in-Ok.row) (rw c.in-Ok.is at (c.restart.ensures c.args.t)) h)
