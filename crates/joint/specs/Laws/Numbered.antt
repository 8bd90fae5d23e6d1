-- A list whose element i is i, as the transactions and the sites are: what is left of it from i on, and that i stands in it once. Assumes nothing.
use Rattle.std.specs.Prelude.{ℕ, ◌+◌, ◌<◌, ◌≡◌, List, ◌∷◌, length, get_or, drop, T, eqb}
use Rattle.std.proofs.Common.{◌∙◌, add-one, drop-cons, eqb-true}
use Rattle.codec.specs.Lists.{select}
use Rattle.codec.specs.Laws.Tests.{true_of, below, below_at}

-- tested by computation
abbrev pub Numbered : List ℕ → Type 0
Numbered l = T (below (length l) (λ i. eqb (get_or l i 0) i))

pub numbered_at : (l : List ℕ) → Numbered l → (i : ℕ) → i < length l → get_or l i 0 ≡ i
numbered_at l t i h = eqb-true _ _ (true_of _ (below_at (length l) (λ i. eqb (get_or l i 0) i) t i h))

pub numbered_from : (l : List ℕ) → Numbered l → (i : ℕ) → i < length l → drop i l ≡ i ∷ drop (i + 1) l
numbered_from l t i h = drop-cons l i 0 h ∙ rw (numbered_at l t i h, add-one)

-- i stands in it once; tested by computation too
abbrev pub Once : List ℕ → Type 0
Once l = T (below (length l) (λ i. eqb (length (select (λ j. eqb j i) l)) 1))

pub once : (l : List ℕ) → Once l → (i : ℕ) → i < length l → length (select (λ j. eqb j i) l) ≡ 1
once l t i h = eqb-true _ _ (true_of _ (below_at (length l) (λ i. eqb (length (select (λ j. eqb j i) l)) 1) t i h))
