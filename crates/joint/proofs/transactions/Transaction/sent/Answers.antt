use mathlib.Core.Path.{◌≡◌, ap, ◌∙◌}
use lib.ListN.{get_or}
use borrow.Author.Rules.{rules}
use Rattle.codec.specs.Sets.{member}
use Rattle.joint.specs.Answers.{transaction_in}
use Rattle.joint.proofs.transactions.Transaction.sent.Goals as goal

pub returns : goal.returns
unfolding transaction_in
returns c =
    let a = c.args in
    let e : c.unwrap_or-to.result ≡ get_or a.self.now.sent a.kind 0 = search rules in
    c.member.ensures ∙ ap (member a.participant) e
