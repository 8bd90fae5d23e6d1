use Rattle.std.proofs.Common.{◌≡◌, ◌+◌, ◌*◌, ◌≤◌, length, drop}
use Rattle.drill_text.specs.Inside.{lines_from}
use Rattle.drill_text.proofs.text.lines_size.Given as goal

abbrev pub invariant-loop-i : goal.invariant-loop-i
invariant-loop-i l =
    (l.size ≤ 35 * l.i) × (l.size + length (lines_from (l.i + 1) (drop l.i l.answers)) ≡ length (lines_from 1 l.answers))
