use mathlib.Core.Path.{◌≡◌, ◌∙◌}
use lib.ListN.{length}
use borrow.Author.Rules.{rules}
use Rattle.std.proofs.iter.runs.Made.{chains}
use Rattle.std.specs.Prelude.{count_by}
use Rattle.joint.proofs.Engine.Arrays.{length-shown}
use Rattle.joint.proofs.Engine.Handovers.{with_site, counted}
use Rattle.joint.proofs.run.Run.handovers.Goals as goal

pub returns : goal.returns
returns c =
    let r = c.args.self.now in
    let few : length r.transactions ≡ 8 = search length-shown in
    let e : c.count.result ≡ count_by (with_site c.args.site) r.transactions = search (rules, chains) in
    e ∙ counted r c.args.site few
