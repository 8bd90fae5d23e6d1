use Rattle.joint.specs.State.{forgotten}
use Rattle.joint.specs.Answers.{transaction_in, no_transaction}
use Rattle.joint.proofs.Engine.Arrays.{Passed}
use Rattle.joint.proofs.restarts.forget_all.Given as goal

abbrev pub invariant-loop-transaction : goal.invariant-loop-transaction
invariant-loop-transaction l = Passed transaction_in (forgotten l.site.number) no_transaction l.initial.transactions l.transactions l.transaction-index
