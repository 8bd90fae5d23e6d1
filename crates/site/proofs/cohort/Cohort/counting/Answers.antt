use mathlib.Core.Path.{ap, sym, ◌∙◌}
use borrow.Author.Tests.{ne_eqb}
use Rattle.codec.specs.Sets.{empty}
use Rattle.site.specs.Cohort.{Cohort}
use Rattle.site.specs.Coordinator.{voted, counting}
use Rattle.site.proofs.cohort.Cohort.counting.Goals as goal

pub returns-then-rest-eq0 : goal.returns-then-rest-eq0
unfolding counting voted empty
returns-then-rest-eq0 c t =
    let m = ap (λ (g : Cohort). g.members) c.without-rest.ensures in
    rw (c.deserted.ensures t c.args.taken_out, sym m ∙ c.if-rest-eq0.true)

pub returns-then-waiting-eq0 : goal.returns-then-waiting-eq0
unfolding counting voted empty
returns-then-waiting-eq0 c t =
    let r = c.without-rest.ensures in
    let some_left = ne_eqb _ 0 (λ z. c.if-rest-eq0.false (ap (λ (g : Cohort). g.members) r ∙ z)) in
    rw (c.committing.ensures t, some_left, c.if-waiting-eq0.true, sym r)
