use Rattle.joint.specs.Answers.{run_in}
use Rattle.drill_text.specs.Inside.{transaction_lines}
use Rattle.drill_text.proofs.Pushed.{Left}
use Rattle.drill_text.proofs.Texts.{text_from}
use Rattle.drill_text.proofs.text.Text.push_transactions.Given as goal

abbrev pub invariant-loop-i : goal.invariant-loop-i
invariant-loop-i l = let r = run_in l.run in Left l.initial.self l.self (transaction_lines r) (text_from r l.i)
