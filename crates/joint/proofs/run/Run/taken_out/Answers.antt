use mathlib.Core.Path.{ap}
use Rattle.joint.specs.State as plain
use Rattle.joint.specs.Answers.{transaction_in}
use Rattle.joint.proofs.run.Run.taken_out.Goals as goal

pub returns : goal.returns
unfolding transaction_in
returns c = ap (λ (x : plain.Transaction). x.coordinator.taken_out) c.transaction.ensures
