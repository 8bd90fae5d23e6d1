-- The members of a mask of a byte as a list: how many there are, and the mask that they make. Assumes nothing.
use Rattle.std.specs.Prelude.{◌≡◌, List, [], ◌∷◌, ℕ, ◌+◌, ◌-◌, ◌^◌, ◌<◌, ◌≤◌, eqb, leb, length}
use Rattle.std.proofs.Common.{eqb→eq, leb-true}
use Rattle.std.specs.Int.Count.{ones, ones_in}
use Rattle.codec.specs.Lists.{select}
use Rattle.codec.specs.Sets.{participants, member, listed}
use Rattle.codec.specs.Laws.Tests.{below_at, true_of}

-- ---- how many

pub size-ones : (m : ℕ) → m < 256 → ones m ≡ length (listed m)
unfolding ones ones_in listed select participants member
size-ones m h = eqb→eq _ _ (below_at 256 (λ m. eqb (ones m) (length (listed m))) tt m h)

pub size-most : (m : ℕ) → m < 256 → length (listed m) ≤ 8
unfolding listed select participants member
size-most m h = leb-true _ _ (true_of _ (below_at 256 (λ m. leb (length (listed m)) 8) tt m h))

-- ---- the set that a list of participants is

abbrev pub weight : List ℕ → ℕ
weight [] = 0
weight (p ∷ ps) = 2 ^ (p - 1) + weight ps

pub weight_listed : (m : ℕ) → m < 256 → weight (listed m) ≡ m
unfolding listed select participants member
weight_listed m h = eqb→eq _ _ (below_at 256 (λ m. eqb (weight (listed m)) m) tt m h)
