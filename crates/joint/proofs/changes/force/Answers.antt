use mathlib.Core.Path.{sym, ◌∙◌}
use Rattle.std.proofs.lemmas.Result.{err_from_is_err_and}
use Rattle.joint.specs.Inside.{change_in}
use Rattle.joint.proofs.Engine.Changes.{up_here, force-down, force-forces}
use Rattle.joint.proofs.changes.force.Goals as goal

pub returns-in_err-up : goal.returns-in_err-up
unfolding change_in
returns-in_err-up c =
    λ w s t here.
    let p = err_from_is_err_and c.from_residual.result c.from_residual.ensures.1 in
    rw (p.1, p.2) (force-down w s t (sym (up_here c.args.site w s here) ∙ c.in_err-up.ensures.0) c.in_err-up.ensures.1)

pub returns : goal.returns
unfolding change_in
returns c = λ w s t here. force-forces w s t (sym (up_here c.args.site w s here) ∙ c.in_ok-up.ensures)
