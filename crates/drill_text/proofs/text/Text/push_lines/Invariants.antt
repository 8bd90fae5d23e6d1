use Rattle.std.proofs.Common.{◌≡◌, ◌+◌, drop}
use Rattle.drill_text.specs.Decimal.{value}
use Rattle.drill_text.specs.Inside.{lines_from}
use Rattle.drill_text.proofs.Pushed.{Left}
use Rattle.drill_text.proofs.text.Text.push_lines.Given as goal

abbrev pub invariant-loop-answer : goal.invariant-loop-answer
invariant-loop-answer l =
    (value l.number.digits ≡ l.answer-index) × Left l.initial.self l.self (lines_from 1 l.answers) (lines_from (l.answer-index + 1) (drop l.answer-index l.answers))
