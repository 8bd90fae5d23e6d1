use Rattle.site.specs.Answers.{effects_in, closing}
use Rattle.site.specs.Numbers.{appending, entry_of}
use Rattle.codec.specs.Records.{lengths, length_of}
use Rattle.site.specs.Participant.{promising}
use Rattle.site.specs.Step.{vote_yes, message_kind, given}
use Rattle.site.proofs.Sent.{own_sent}
use Rattle.site.proofs.participant.Own.promising.Goals as goal

pub returns : goal.returns
unfolding promising effects_in appending entry_of closing given lengths length_of message_kind
returns c t =
    rw (c.only.ensures, c.number.ensures, own_sent t vote_yes c.args.self.number c.args.self.numbered)
