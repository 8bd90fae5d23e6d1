use mathlib.Core.Path.{sym, ◌∙◌}
use Rattle.std.proofs.lemmas.Result.{err_from_is_err_and}
use Rattle.joint.specs.Answers.{number_of}
use Rattle.joint.specs.Inside.{change_in}
use Rattle.joint.proofs.Engine.Changes.{up_here, may_keep_here, crash-down, crash_beyond, crash_stops}
use Rattle.joint.proofs.changes.crash.Goals as goal

pub returns-in_err-up : goal.returns-in_err-up
unfolding change_in
returns-in_err-up c =
    λ w s t here.
    let a = c.args in
    let p = err_from_is_err_and c.from_residual.result c.from_residual.ensures.1 in
    rw (p.1, p.2) (crash-down w s t a.keep (sym (up_here a.site w s here) ∙ c.in_err-up.ensures.0) c.in_err-up.ensures.1)

pub returns-then-not-may_keep : goal.returns-then-not-may_keep
unfolding change_in number_of
returns-then-not-may_keep c =
    λ w s t here.
    let a = c.args in
    crash_beyond w s t a.keep (sym (up_here a.site w s here) ∙ c.in_ok-up.ensures) (sym (may_keep_here a.site w s a.keep _ here c.may_keep.ensures) ∙ c.if-not-may_keep.true)

pub returns : goal.returns
unfolding change_in
returns c =
    λ w s t here.
    let a = c.args in
    crash_stops w s t a.keep (sym (up_here a.site w s here) ∙ c.in_ok-up.ensures) (sym (may_keep_here a.site w s a.keep _ here c.may_keep.ensures) ∙ c.if-not-may_keep.false)
