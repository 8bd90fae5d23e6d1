use mathlib.Core.Path.{refl, sym, ◌∙◌}
use native.Mathlib.Omega.{arith}
use Rattle.joint.specs.Answers.{number_of}
use Rattle.joint.specs.Inside.{change_in}
use Rattle.joint.proofs.Engine.Changes.{cut_beyond, keep_beyond, carried_cut, may_keep_after}
use Rattle.joint.proofs.changes.carry.Goals as goal

pub returns-in_default : goal.returns-in_default
unfolding change_in
returns-in_default c = λ w s here fits. rw c.in_default.is refl

pub returns-then-count-cut : goal.returns-then-count-cut
unfolding change_in number_of
returns-then-count-cut c = λ w s here fits.
    let a = c.args in
    let cut = c.in-Some.cut in
    rw c.in-Some.is (cut_beyond w s a.transaction a.row cut.after cut.keep (omega (arith, c.count.ensures a.transaction)))

pub returns-then-not-may_keep : goal.returns-then-not-may_keep
unfolding change_in number_of
returns-then-not-may_keep c = λ w s here fits.
    let a = c.args in
    let cut = c.in-Some.cut in
    rw c.in-Some.is (keep_beyond w s a.transaction a.row cut.after cut.keep c.cut-happened.result c.cut-happened.ensures (omega (arith, c.count.ensures a.transaction))
    (sym (may_keep_after a.site c.after-after.result w s a.transaction a.row.effects c.cut-happened.result cut.after cut.keep _ here fits c.cut-happened.ensures c.after-after.ensures c.may_keep.ensures) ∙ c.if-not-may_keep.true))

pub returns : goal.returns
unfolding change_in
returns c = λ w s here fits.
    let a = c.args in
    let cut = c.in-Some.cut in
    rw c.in-Some.is (carried_cut w s a.transaction a.row cut.after cut.keep c.cut-happened.result c.cut-happened.ensures (omega (arith, c.count.ensures a.transaction))
    (sym (may_keep_after a.site c.after-after.result w s a.transaction a.row.effects c.cut-happened.result cut.after cut.keep _ here fits c.cut-happened.ensures c.after-after.ensures c.may_keep.ensures) ∙ c.if-not-may_keep.false))
