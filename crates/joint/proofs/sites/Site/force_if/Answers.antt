use mathlib.Core.Path.{refl}
use Rattle.site.specs.Step.{given}
use Rattle.joint.specs.Inside.{site_after}
use Rattle.joint.proofs.sites.Site.force_if.Goals as goal

pub returns-then-forced : goal.returns-then-forced
unfolding given site_after
returns-then-forced c = λ rs t all. rw c.if-forced.true (c.force.ensures rs all)

pub returns-else-forced : goal.returns-else-forced
unfolding given site_after
returns-else-forced c = λ rs t all. rw c.if-forced.false refl
