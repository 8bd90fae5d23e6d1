-- Laws that the check tries together: a function of src/ names the list that it needs. Assumes nothing.
use Rattle.drill_text.proofs.Decimal.{shown_one, shown_two, shown_three, shown_four, shown_five}
use Rattle.drill_text.proofs.Texts.{line_short, line_wide, line-length, opened_next, opened_skip, opened_end}

-- the digits of a line's number
pub ruleset shown = (shown_one, shown_two, shown_three, shown_four, shown_five)

-- a line
pub ruleset line = (line_short, line_wide, line-length)

-- the opened transactions in turn
pub ruleset opened = (opened_next, opened_skip, opened_end)
