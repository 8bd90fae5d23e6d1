use mathlib.Core.Bool.{not}
use mathlib.Core.Path.{refl, sym, ap, ◌∙◌}
use Rattle.joint.specs.Answers.{number_of}
use Rattle.joint.specs.Inside.{change_in, then_in}
use Rattle.joint.proofs.Engine.Changes.{one_down, open_before, open_down, open_opens}
use Rattle.joint.specs.State.{opened}
use Rattle.joint.specs.declared.rows.Then.TheVariants as follows
use Rattle.joint.proofs.changes.open.Goals as goal

pub returns-then-opened : goal.returns-then-opened
unfolding change_in number_of opened
returns-then-opened c =
    λ w ups own.
    let e = c.args.e in
    open_before w e.transaction.number e.cohort.members e.cohort.presume_commit (rw (sym own) (sym c.opened.ensures ∙ c.if-opened.true))

pub returns-then-not-all_up : goal.returns-then-not-all_up
unfolding change_in number_of opened
returns-then-not-all_up c =
    λ w ups own.
    let a = c.args in
    let e = a.e in
    open_down w e.transaction.number e.cohort.members e.cohort.presume_commit (rw (sym own) (sym c.opened.ensures ∙ c.if-opened.false))
    (one_down a.sites.now w e.cohort.members ups _ _ c.all_up.ensures (ap not c.if-not-all_up.true))

pub returns : goal.returns
unfolding change_in then_in opened
returns c =
    λ w ups own.
    let a = c.args in
    let e = a.e in
    open_opens w e.transaction.number e.cohort.members e.cohort.presume_commit (rw (sym own) (sym c.opened.ensures ∙ c.if-opened.false))
    (one_down a.sites.now w e.cohort.members ups _ _ c.all_up.ensures (ap not c.if-not-all_up.false)) (follows.Opened e.cohort) refl
