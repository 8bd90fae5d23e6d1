-- What the numbers of an outcome do in a row. Assumes nothing.
use mathlib.Core.Path.{◌≡◌, refl}
use mathlib.Core.List.{[], ◌∷◌}
use Prim.Native.Nat.{ℕ, ◌-◌}
use lib.ListN.{take}
use Rattle.codec.specs.Sets.{only}
use Rattle.codec.specs.Records.{lengths, length_of}
use Rattle.site.specs.Presumption.{Outcome, commit, abort}
use Rattle.site.specs.Step.{tell, append, enter, send}
use Rattle.site.specs.Cohort.{Cohort, owing}
use Rattle.site.specs.Coordinator.{end_record, in_order, tell_all}
use Rattle.site.specs.Participant.{outcome_record}
use Rattle.site.specs.Numbers.{appending, outcome_number, entry_of}
use Rattle.site.specs.Laws.Sets.{Numbered}
use Rattle.site.proofs.Sent.{ordered_one}

pub entering_outcome : (o : Outcome) → entry_of (outcome_number o) ≡ enter o ∷ []
unfolding entry_of outcome_number
entering_outcome commit = refl
entering_outcome abort = refl

pub end_appended : (o : Outcome) (a b : ℕ) → appending (end_record o) (take (length_of (end_record o) - 2) (a ∷ b ∷ [])) ≡ append (end_record o) [] ∷ []
unfolding appending end_record length_of lengths
end_appended commit a b = refl
end_appended abort a b = refl

pub outcome-appended : (o : Outcome) (a b : ℕ) → appending (outcome_record o) (take (length_of (outcome_record o) - 2) (a ∷ b ∷ [])) ≡ append (outcome_record o) [] ∷ []
unfolding appending outcome_record length_of lengths
outcome-appended commit a b = refl
outcome-appended abort a b = refl

module _ (t : ℕ) (g : Cohort) where
  pub tell_one : (o : Outcome) (p : ℕ) → Numbered p → tell_all t g o (only p) ≡ send (tell o) p ∷ []
  unfolding tell_all in_order
  tell_one o p h = rw (ordered_one t (owing g o) p h)
