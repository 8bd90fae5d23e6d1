use Rattle.joint.proofs.Engine.Sites.{force_stands}
use Rattle.joint.proofs.sites.Site.force.Goals as goal

pub returns : goal.returns
returns c = λ rs all. rw c.count.ensures (force_stands c.args.self rs all)
