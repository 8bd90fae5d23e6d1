use mathlib.Core.Path.{sym, ap}
use Rattle.codec.specs.Messages.{message_answer}
use Rattle.codec.specs.Answers.{parts_values}
use Rattle.codec.proofs.Numbered.{no_message, parts_of, vote_of}
use Rattle.codec.proofs.message.Parts.from_number.Goals as goal

pub returns-then-number-gt-LAST : goal.returns-then-number-gt-LAST
unfolding parts_values
returns-then-number-gt-LAST c = sym (no_message _ c.if-number-gt-LAST.true)

pub returns-then-number-ge-FIRST_READ_ONLY : goal.returns-then-number-ge-FIRST_READ_ONLY
unfolding parts_values message_answer
returns-then-number-ge-FIRST_READ_ONLY c = let votes = c.down-votes.ensures in
    sym (ap message_answer (vote_of _ _ _ c.if-number-ge-FIRST_READ_ONLY.true c.if-number-gt-LAST.false votes.0 votes.1))

pub returns : goal.returns
unfolding parts_values message_answer
returns c = let participants = c.down-participants.ensures in
    let transactions = c.down-transactions.ensures in
    sym (ap message_answer (parts_of _ _ _ _ _ c.if-number-ge-FIRST_READ_ONLY.false transactions.0 transactions.1 participants.0 participants.1))
