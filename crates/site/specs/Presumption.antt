-- Outcomes, and what a participant states beforehand about silence.
use Rattle.std.specs.Prelude.{ℕ, Bool, true, false}

pub data Outcome : Type 0 where
  commit abort : Outcome

unfoldable pub same_outcome : Outcome → Outcome → Bool
same_outcome commit commit = true
same_outcome commit abort = false
same_outcome abort commit = false
same_outcome abort abort = true

-- Presumed abort (01: PrA, presumption 0) and presumed commit (PrC, 1). `acks` and `silence` are all that a presumption says.
pub data Presumption : Type 0 where
  presumed_abort presumed_commit : Presumption

-- the participant acknowledges that outcome, and forces its record of it
unfoldable pub acks : Presumption → Outcome → Bool
acks presumed_abort commit = true
acks presumed_abort abort = false
acks presumed_commit commit = false
acks presumed_commit abort = true

-- the outcome with which a coordinator in Unknown answers its Yes
unfoldable pub silence : Presumption → Outcome
silence presumed_abort = abort
silence presumed_commit = commit

unfoldable pub presumption_number : Presumption → ℕ
presumption_number presumed_abort = 0
presumption_number presumed_commit = 1
