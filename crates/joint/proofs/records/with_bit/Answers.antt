use Rattle.joint.proofs.Engine.Kinds.{one_more_bit}
use Rattle.joint.proofs.records.with_bit.Goals as goal

pub returns : goal.returns
returns c = λ k. one_more_bit c.args.set c.args.at k c.requires
