-- The participants of one transaction, with their presumptions.
use Rattle.std.specs.Prelude.{ℕ, Bool, cond, not, ◌&&◌, List, [], ◌∷◌}
use Rattle.codec.specs.Sets.{member, empty, those, minus}
use Rattle.site.specs.Presumption.{Outcome, Presumption, presumed_abort, presumed_commit, acks}

-- the members, and those of them that presume commit (01: PC)
pub record Cohort : Type 0 where
  pub members : ℕ
  pub presume_commit : ℕ

-- the cohort that remains where the set `out` is taken out (02: boxes that only looked)
unfoldable pub remaining : Cohort → ℕ → Cohort
remaining g out = record { members = minus g.members out; presume_commit = minus g.presume_commit out }

-- the fields of the records 1 and 2 behind the transaction
unfoldable pub masks_of : Cohort → List ℕ
masks_of g = g.members ∷ g.presume_commit ∷ []

-- Init is written at begin: PC is not empty
abbrev pub writes_init : Cohort → Bool
writes_init g = not (empty g.presume_commit)

unfoldable pub presumption_of : Cohort → ℕ → Presumption
presumption_of g p = cond (member p g.presume_commit) presumed_commit presumed_abort

-- the members that owe an ack for an outcome: for commit the PrA members, for abort the PrC members
unfoldable pub owing : Cohort → Outcome → ℕ
owing g o = those λ p. member p g.members && acks (presumption_of g p) o
