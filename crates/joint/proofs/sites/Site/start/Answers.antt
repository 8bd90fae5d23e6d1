use mathlib.Core.Path.{refl}
use Rattle.joint.specs.State.{started}
use Rattle.joint.specs.Answers.{site_from}
use Rattle.joint.proofs.sites.Site.start.Goals as goal

pub returns : goal.returns
unfolding site_from started
returns c = λ rs. refl
