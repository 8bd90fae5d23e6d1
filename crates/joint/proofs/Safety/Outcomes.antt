-- Laws of outcomes and presumptions, by cases.
use mathlib.Core.Path.{◌≡◌, refl}
use mathlib.Core.Bool.{◌||◌}
use lib.Dec.{T}
use Rattle.site.specs.Presumption.{Outcome, commit, abort, same_outcome, Presumption, presumed_abort, presumed_commit, acks, silence}

pub refl-outcome : (o : Outcome) → T (same_outcome o o)
unfolding same_outcome
refl-outcome commit = tt
refl-outcome abort = tt

pub same_outcome_lem : (r o : Outcome) → T (same_outcome r o) → r ≡ o
unfolding same_outcome
same_outcome_lem commit commit u = refl
same_outcome_lem commit abort u = absurd u
same_outcome_lem abort commit u = absurd u
same_outcome_lem abort abort u = refl

pub one_outcome_lem : (o : Outcome) → T (same_outcome o commit) → T (same_outcome o abort) → ⊥
unfolding same_outcome
one_outcome_lem commit c a = a
one_outcome_lem abort c a = c

-- an ack is owed where silence means the other outcome
pub owes : (c : Presumption) (o : Outcome) → T (same_outcome (silence c) o || acks c o)
unfolding same_outcome silence acks
owes presumed_abort commit = tt
owes presumed_abort abort = tt
owes presumed_commit commit = tt
owes presumed_commit abort = tt
