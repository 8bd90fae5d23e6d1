-- Who owes an ack, as a set of members and PC makes it. Assumes nothing.
use Rattle.std.specs.Prelude.{◌≡◌, refl, Bool, true, false, cond, not, ◌&&◌, ℕ, suc, ◌≤◌}
use Rattle.std.proofs.Common.{ap}
use Rattle.codec.specs.Sets.{member, both, minus}
use Rattle.codec.specs.Laws.Masks.{those_alike}
use Rattle.site.specs.Presumption.{commit, abort, acks, presumed_abort, presumed_commit}
use Rattle.site.specs.Cohort.{Cohort, presumption_of, owing}

-- a participant's number
abbrev pub Numbered : ℕ → Type 0
Numbered p = (1 ≤ p) × (p ≤ 8)

pub owing_commit : (g : Cohort) → owing g commit ≡ minus g.members g.presume_commit
unfolding owing minus presumption_of acks
owing_commit g =
    those_alike (λ p. member p g.members && acks (presumption_of g p) commit)
    (λ p. member p g.members && not (member p g.presume_commit))
    (λ i h. ap (member (suc i) g.members &&◌) (by (member (suc i) g.presume_commit)))
  where
    by : (b : Bool) → acks (cond b presumed_commit presumed_abort) commit ≡ not b
    by true = refl
    by false = refl

pub owing_abort : (g : Cohort) → owing g abort ≡ both g.members g.presume_commit
unfolding owing both presumption_of acks
owing_abort g =
    those_alike (λ p. member p g.members && acks (presumption_of g p) abort)
    (λ p. member p g.members && member p g.presume_commit)
    (λ i h. ap (member (suc i) g.members &&◌) (by (member (suc i) g.presume_commit)))
  where
    by : (b : Bool) → acks (cond b presumed_commit presumed_abort) abort ≡ b
    by true = refl
    by false = refl
