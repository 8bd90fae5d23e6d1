use Rattle.std.proofs.Common.{drop}
use Rattle.joint.specs.Answers.{totals_in}
use Rattle.drill_text.specs.Inside.{sites, site_lines}
use Rattle.drill_text.proofs.Pushed.{Left}
use Rattle.drill_text.proofs.text.Text.push_sites.Given as goal

abbrev pub invariant-loop-site : goal.invariant-loop-site
invariant-loop-site l =
    let f = totals_in l.run in Left l.initial.self l.self (site_lines f sites) (site_lines f (drop l.site sites))
