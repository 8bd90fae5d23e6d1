use Rattle.std.proofs.Common.{◌+◌, ap, ◌∙◌, [], ◌∷◌, ◌++◌, get_or, drop, arith}
use Rattle.codec.specs.Laws.Stored.{Next}
use Rattle.joint.specs.Drill.{decimal, line}
use Rattle.drill_text.specs.Decimal.{value}
use Rattle.drill_text.specs.Inside.{lines_from}
use Rattle.drill_text.proofs.Pushed.{front, inner, left_room, left_next, left_end}
use Rattle.drill_text.proofs.Texts.{counted_next, lines_next, lines_end}
use Rattle.drill_text.proofs.text.Text.push_lines.Goals as goal
use Rattle.drill_text.proofs.text.Text.push_lines.Goals.{After-count}

-- the number of the next line, and what is behind it
number : (c : After-count)
    → let all = c.args.answers.now in
    let i = c.loop-answer.answer-index in
    Next (lines_from (i + 1) (drop i all)) (decimal 5 (value c.count.new.self.digits) ++ (32 ∷ [])) (line 5 (get_or all i []) ++ lines_from (i + 1 + 1) (drop (i + 1) all))
number c =
    let all = c.args.answers.now in
    let i = c.loop-answer.answer-index in
    inner (lines_next all i _ (omega arith) (c.count.ensures ∙ ap (◌+ 1) c.loop-answer.invariant.0)) (counted_next (get_or all i []) (omega arith) _)

pub push_number-requires : goal.push_number-requires
push_number-requires c = left_room c.loop-answer.invariant.1 (number (goal.at.push_number-requires c).After-count)

pub push_answer-requires : goal.push_answer-requires
push_answer-requires c = left_room (left_next c.loop-answer.invariant.1 (number (goal.at.push_answer-requires c).After-count) c.push_number.ensures) front

pub loop-answer-preserved : goal.loop-answer-preserved
loop-answer-preserved c = (
  omega (arith, c.count.ensures, c.loop-answer.invariant.0),
  left_next (left_next c.loop-answer.invariant.1 (number (goal.at.loop-answer-preserved c).After-count) c.push_number.ensures) front c.push_answer.ensures,
)

pub returns : goal.returns
returns c = left_end c.loop-answer.invariant.1 (lines_end _ _ (omega arith))
