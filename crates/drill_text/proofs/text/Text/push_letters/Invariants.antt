use Rattle.std.proofs.Common.{drop}
use Rattle.joint.specs.Answers.{run_in}
use Rattle.drill_text.specs.Inside.{letters}
use Rattle.drill_text.proofs.Pushed.{Left}
use Rattle.drill_text.proofs.text.Text.push_letters.Given as goal

abbrev pub invariant-loop-site : goal.invariant-loop-site
invariant-loop-site l =
    let all = letters (run_in l.run) l.transaction in Left l.initial.self l.self all (drop l.site all)
