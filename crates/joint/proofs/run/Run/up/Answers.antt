use mathlib.Core.Path.{◌≡◌, ap}
use lib.ListN.{get_or}
use borrow.Author.Rules.{rules}
use Rattle.joint.specs.Answers.{no_site, site_from, run_in}
use Rattle.joint.specs.declared.sites.Site.{Site}
use Rattle.joint.proofs.run.Run.up.Goals as goal

pub returns : goal.returns
unfolding run_in site_from
returns c =
    let e : c.unwrap_or.result ≡ get_or c.args.self.now.sites c.args.site no_site = search rules in
    ap (λ (x : Site). x.up) e
