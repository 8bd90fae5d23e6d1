use Rattle.joint.proofs.Engine.Sites.{stop_stands}
use Rattle.joint.proofs.sites.Site.stop.Goals as goal

pub returns : goal.returns
returns c = λ rs. stop_stands c.args.self rs
