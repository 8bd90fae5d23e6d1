use mathlib.Core.Path.{◌≡◌, ap, ◌∙◌}
use lib.ListN.{length}
use Rattle.site.specs.Answers.{effects_in}
use Rattle.joint.specs.State.{stopped}
use Rattle.joint.specs.Plan.{trimmed}
use Rattle.joint.specs.Answers.{site_from}
use Rattle.joint.specs.Inside.{Fits, site_after, then_site, row_site}
use Rattle.joint.proofs.Engine.Arrays.{length-shown}
use Rattle.joint.proofs.Engine.RowSites.{unmoved, unchanged}
use Rattle.joint.proofs.records.Records.after.Goals as goal
use Rattle.joint.proofs.records.Records.after.Goals.{After-after-after}

-- after the row's effects
effected : (c : After-after-after) → let s = c.args in Fits (effects_in s.transaction s.row.effects) (site_from s.site s.self.of)
    → site_from c.after-after.result c.append-records.result.of ≡ site_after s.transaction (effects_in s.transaction s.row.effects) (site_from s.site s.self.of)
effected c fits =
    let s = c.args in
    let all : length s.self.of ≡ 24 = search length-shown in
    rw c.append-records.ensures (c.after-after.ensures s.self.of s.transaction all fits)

pub returns-in-Discarded : goal.returns-in-Discarded
unfolding row_site then_site
returns-in-Discarded c = λ fits.
    rw c.in-Discarded.is (c.trim.ensures ∙ ap (trimmed c.args.transaction) (effected (goal.at.returns-in-Discarded c).After-after-after fits))

pub returns-in-Down : goal.returns-in-Down
unfolding row_site then_site
returns-in-Down c = λ fits.
    rw c.in-Down.is (c.stop.ensures ∙ ap (stopped c.in-Down.keep) (effected (goal.at.returns-in-Down c).After-after-after fits))

pub returns-in_default : goal.returns-in_default
unfolding row_site
returns-in_default c = λ fits.
    let s = c.args in
    effected (goal.at.returns-in_default c).After-after-after fits
    ∙ unchanged s.row.then c.in_default.not-Down (unmoved s.row.then c.in_default.not-Discarded c.in_default.not-Down) s.transaction _
