use mathlib.Core.Path.{sym}
use Rattle.std.proofs.lemmas.Result.{err_from_is_err_and}
use Rattle.joint.specs.Answers.{run_in, next_in, number_of}
use Rattle.joint.specs.Inside.{event_in}
use Rattle.joint.proofs.Engine.Turns.{turned_refused, malformed_seen}
use Rattle.joint.proofs.run.Run.take.Goals as goal

pub returns-in_err-step : goal.returns-in_err-step
unfolding next_in event_in number_of
returns-in_err-step c room =
    let a = c.args in
    let h = c.in_err-step.ensures in
    let p = err_from_is_err_and c.from_residual.result c.from_residual.ensures.1 in
    rw (p.1, p.2) (turned_refused a.self.now a.event.now c.in_err-step.field-0.0 (rw h.1 (malformed_seen (run_in a.self.now) a.event.now (sym h.0))))

pub returns-in-Step : goal.returns-in-Step
unfolding event_in
returns-in-Step c room = c.step.ensures c.args.event.now (sym (rw c.in-Step.is at c.in_ok-step.ensures).0) room

pub returns-in-Restart : goal.returns-in-Restart
unfolding event_in
returns-in-Restart c room = c.restart.ensures c.args.event.now (sym (rw c.in-Restart.is at c.in_ok-step.ensures).0) room
