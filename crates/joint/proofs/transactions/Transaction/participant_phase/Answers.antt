use mathlib.Core.Path.{◌≡◌, ap}
use lib.ListN.{get_or}
use borrow.Author.Rules.{rules}
use Rattle.site.specs.Answers.{participant_in}
use Rattle.site.specs.declared.phases.ParticipantPhase.TheVariants.{Unknown}
use Rattle.joint.specs.Answers.{transaction_in}
use Rattle.joint.proofs.transactions.Transaction.participant_phase.Goals as goal

pub returns : goal.returns
unfolding transaction_in
returns c =
    let e : c.unwrap_or.result ≡ get_or c.args.self.now.participants c.args.participant Unknown = search rules in
    ap participant_in e
