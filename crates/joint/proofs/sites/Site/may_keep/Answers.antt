use Rattle.joint.proofs.Engine.Sites.{may_keep_lem}
use Rattle.joint.proofs.sites.Site.may_keep.Goals as goal

pub returns : goal.returns
returns c = λ rs all. rw c.unforced_count.ensures (may_keep_lem c.args.self rs all c.args.keep)
