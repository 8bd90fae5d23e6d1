use Rattle.std.proofs.Common.{refl, ap, length, arith, length-append}
use Rattle.drill_text.proofs.Texts.{lines_next, lines_end}
use Rattle.drill_text.proofs.text.lines_size.Goals as goal

pub loop-i-preserved : goal.loop-i-preserved
loop-i-preserved c =
    let next = simp length-append at (ap length (lines_next c.args.answers.now c.loop-i.i _ (omega arith) refl).split) in
    (omega arith, omega (arith, next, c.line_size-size.ensures.0, c.loop-i.invariant.1))

pub returns : goal.returns
returns c = omega (arith, c.loop-i.invariant.1, ap length (lines_end c.args.answers.now c.loop-i.i (omega arith)))
