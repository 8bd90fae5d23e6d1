use mathlib.Core.Path.{◌≡◌}
use lib.ListN.{length}
use Rattle.joint.specs.Answers.{transaction_in}
use Rattle.joint.proofs.Engine.Transactions.{opening, working_below}
use Rattle.joint.proofs.transactions.Transaction.open.Given as goal

abbrev pub invariant-loop-i : goal.invariant-loop-i
invariant-loop-i l =
    (length l.phase-items ≡ 9) ×
    (transaction_in (opening l.fn.self l.cohort l.phase-items) ≡ working_below l.i l.cohort.members (transaction_in (opening l.fn.self l.cohort l.initial.phase-items)))
