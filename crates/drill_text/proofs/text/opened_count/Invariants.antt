use Rattle.std.proofs.Common.{◌≡◌, ◌+◌, ◌≤◌, length}
use Rattle.joint.specs.Answers.{run_in}
use Rattle.drill_text.specs.Inside.{opened_in}
use Rattle.drill_text.proofs.Texts.{opened_from}
use Rattle.drill_text.proofs.text.opened_count.Given as goal

abbrev pub invariant-loop-i : goal.invariant-loop-i
invariant-loop-i l =
    let r = run_in l.run in (l.count ≤ l.i) × (l.count + length (opened_from r l.i) ≡ length (opened_in r))
