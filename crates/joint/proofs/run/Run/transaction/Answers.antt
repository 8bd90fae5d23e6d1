use mathlib.Core.Path.{◌≡◌, ap}
use lib.ListN.{get_or}
use borrow.Author.Rules.{rules}
use Rattle.joint.specs.Answers.{transaction_in, run_in}
use Rattle.joint.proofs.run.Run.transaction.Goals as goal

pub returns : goal.returns
unfolding run_in
returns c =
    let e : c.unwrap_or.result ≡ get_or c.args.self.now.transactions c.args.transaction c.new.result = search rules in
    ap transaction_in (rw c.new.ensures at e)
