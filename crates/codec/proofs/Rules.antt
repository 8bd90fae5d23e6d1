-- Laws that the check tries together: a function of src/ names the list that it needs. Assumes nothing.
use Rattle.codec.specs.Laws.Fields.{at_coordinator, at_participant, no_kind_low, no_kind_high, fields_init, fields_commit, fields_prepared, fields_other, fields-zero, fields_high}
use Rattle.codec.specs.Laws.Members.{minus-only}
use Rattle.codec.specs.Laws.Listed.{size-ones}
use Rattle.codec.proofs.Numbered.{wrong_parts, number_of_lem, participant_one, low_number, vote_number}
use Rattle.codec.specs.Laws.Remaining.{minus-none}
use Rattle.codec.proofs.Opened.{few-records, opens_long, not_opened, over, not-exact, by_records}

-- which site has records of a kind
pub ruleset kinds = (at_coordinator, at_participant, no_kind_low, no_kind_high)

-- a record's fields, by its kind
pub ruleset fields = (fields_init, fields_commit, fields_prepared, fields_other, fields-zero, fields_high)

-- a set without one, and how many it has
pub ruleset sets = (minus-only, size-ones)

-- a message's number
pub ruleset numbers = (wrong_parts, number_of_lem, participant_one, low_number, vote_number)

-- the tests before the records
pub ruleset opened = (few-records, opens_long, not_opened, over, not-exact, by_records)

-- a record 5's presumption in the place of members
pub ruleset acks = (minus-none)
