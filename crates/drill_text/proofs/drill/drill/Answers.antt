use Rattle.std.proofs.Common.{◌*◌, arith, length-take}
use Rattle.joint.specs.Drill.{drill_into}
use Rattle.joint.specs.Answers.{run_in, totals_in}
use Rattle.drill_text.proofs.Drilled.{Answered, answered}
use Rattle.drill_text.proofs.drill.drill.Goals as goal
use Rattle.drill_text.proofs.drill.drill.Goals.{After-replay-ran}

-- what the replay leaves
left : (c : After-replay-ran) → Answered c.args.input.now c.replay-ran.result.count (run_in c.replay-ran.result.run) (totals_in c.replay-ran.result.run) c.replay-ran.new.answers
left c = answered _ _ _ _ c.replay-ran.result (omega (arith, c.min.ensures)) (omega arith) c.replay-ran.ensures

pub overflow_mul-answers : goal.overflow_mul-answers
overflow_mul-answers c = omega (arith, (left (goal.at.overflow_mul-answers c).After-replay-ran).few)

pub slice_bounds-answers-end : goal.slice_bounds-answers-end
slice_bounds-answers-end c = (left (goal.at.slice_bounds-answers-end c).After-replay-ran).room

pub slice_bounds-write_text-end : goal.slice_bounds-write_text-end
slice_bounds-write_text-end c =
    let a = left (goal.at.slice_bounds-write_text-end c).After-replay-ran in
    omega (arith, a.room, length-take (4 * c.replay-ran.result.count) c.replay-ran.new.answers)

pub returns-clause-text_after : goal.returns-clause-text_after
unfolding drill_into
returns-clause-text_after c = let a = left (goal.at.returns-clause-text_after c).After-replay-ran in rw (← a.text) c.write_text.ensures.text_after

pub returns-clause-too_short : goal.returns-clause-too_short
returns-clause-too_short c = let a = left (goal.at.returns-clause-too_short c).After-replay-ran in rw (← a.text) c.write_text.ensures.too_short

pub returns-clause-input_len_bound : goal.returns-clause-input_len_bound
returns-clause-input_len_bound c = let a = left (goal.at.returns-clause-input_len_bound c).After-replay-ran in rw (← a.text) c.write_text.ensures.len_bound
