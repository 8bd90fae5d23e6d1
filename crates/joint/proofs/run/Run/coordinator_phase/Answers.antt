use mathlib.Core.Path.{ap}
use Rattle.joint.specs.State as plain
use Rattle.joint.specs.Answers.{transaction_in}
use Rattle.joint.proofs.run.Run.coordinator_phase.Goals as goal

pub returns : goal.returns
unfolding transaction_in
returns c = ap (λ (x : plain.Transaction). x.coordinator.phase) c.transaction.ensures
