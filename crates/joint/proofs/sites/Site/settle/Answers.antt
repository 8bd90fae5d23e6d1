use mathlib.Core.Path.{◌≡◌, ap, ◌∙◌}
use Rattle.joint.specs.State.{stopped}
use Rattle.joint.specs.Answers.{site_from}
use Rattle.joint.specs.Inside.{then_site, row_site}
use Rattle.joint.proofs.Engine.RowSites.{unkept, recordless, unchanged}
use Rattle.joint.proofs.sites.Site.settle.Goals as goal

pub returns-in-Down : goal.returns-in-Down
unfolding row_site then_site
returns-in-Down c = λ rs t all.
    let r = recordless c.args.row c.requires in
    let lost : c.in-Down.field-0 ≡ 0 = unkept c.args.row.then _ c.in-Down.is r.0 in
    rw (c.in-Down.is, lost)
    (c.stop.ensures rs ∙ ap (stopped 0) (c.force_if-after.ensures rs t all ∙ r.1 t (site_from c.args.self rs)))

pub returns-in_default : goal.returns-in_default
unfolding row_site
returns-in_default c = λ rs t all.
    let r = recordless c.args.row c.requires in
    c.force_if-after.ensures rs t all ∙ r.1 t (site_from c.args.self rs)
    ∙ unchanged c.args.row.then c.in_default.not-Down r.0 t _
