use Rattle.std.proofs.Common.{arith}
use Rattle.joint.specs.Answers.{totals_in}
use Rattle.drill_text.proofs.Pushed.{left_room, left_next, left_end}
use Rattle.drill_text.proofs.Texts.{site_next, sites_end}
use Rattle.drill_text.proofs.text.Text.push_sites.Goals as goal

pub push_totals-requires : goal.push_totals-requires
push_totals-requires c = left_room c.loop-site.invariant (site_next (totals_in c.args.run.now) c.loop-site.site _ (omega arith) c.totals.ensures)

pub loop-site-preserved : goal.loop-site-preserved
loop-site-preserved c = left_next c.loop-site.invariant (site_next (totals_in c.args.run.now) c.loop-site.site _ (omega arith) c.totals.ensures) c.push_totals.ensures

pub returns : goal.returns
returns c = left_end c.loop-site.invariant (sites_end (totals_in c.args.run.now) c.loop-site.site (omega arith))
