use mathlib.Core.Path.{ap}
use Rattle.joint.specs.State as plain
use Rattle.joint.specs.Answers.{transaction_in}
use Rattle.joint.proofs.run.Run.members.Goals as goal

pub returns : goal.returns
unfolding transaction_in
returns c = ap (λ (x : plain.Transaction). x.cohort.members) c.transaction.ensures
