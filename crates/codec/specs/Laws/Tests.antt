-- Closed tests: what antt computes over a finite range holds at each number of it. Assumes nothing.
use Rattle.std.specs.Prelude.{◌≡◌, refl, Bool, true, false, not, ◌&&◌, ◌||◌, ◌⊎◌, List, [], ◌∷◌, ℕ, zero, suc, ◌<◌, ◌≤◌, T, eqb, leb, ltb, length, get_or}
use Rattle.std.proofs.Common.{ap, sym, ap₂, subst, ◌∙◌, inl, inr, ⊎_elim, not-suc-le-zero, le_of_suc-le-suc, eq-or-lt_of_le, eqb-true, ltb-true, ltb-false, le-leb, le-ltb, lt-ltb}
use Rattle.std.proofs.Math.Bool.{and-eq-true_iff}
use Rattle.std.proofs.lemmas.Bool.{lt-leb}
use Rattle.codec.specs.Lists.{every, same}

pub and_left : (a b : Bool) → T (a && b) → T a
and_left true b t = tt
and_left false b t = t

pub and_right : (a b : Bool) → T (a && b) → T b
and_right true b t = t
and_right false b t = absurd t

pub true_of : (b : Bool) → T b → b ≡ true
true_of true t = refl
true_of false t = absurd t

pub of_true : {b : Bool} → b ≡ true → T b
of_true e = subst T (sym e) tt

pub or_none : (a b : Bool) → (a || b) ≡ false → (a ≡ false) × (b ≡ false)
or_none true b e = (e, cc)
or_none false b e = (refl, e)

-- the same Boolean
abbrev pub alike : Bool → Bool → Bool
alike true b = b
alike false b = not b

pub alike_eq : (a b : Bool) → T (alike a b) → a ≡ b
alike_eq true true t = refl
alike_eq true false t = absurd t
alike_eq false true t = absurd t
alike_eq false false t = refl

-- f passes at each number below n
abbrev pub below : ℕ → (ℕ → Bool) → Bool
below zero f = true
below (suc n) f = f n && below n f

pub below_at : (n : ℕ) (f : ℕ → Bool) → T (below n f) → (k : ℕ) → k < n → T (f k)
below_at zero f t k h = absurd (not-suc-le-zero h)
below_at (suc n) f t k h =
    ⊎_elim (λ e. subst (λ (m : ℕ). T (f m)) (sym e) (and_left (f n) (below n f) t))
    (λ l. below_at n f (and_right (f n) (below n f) t) k l)
    (eq-or-lt_of_le (le_of_suc-le-suc h))

pub below_at_2 : (n m : ℕ) (f : ℕ → ℕ → Bool) → T (below n (λ i. below m (f i))) → (i j : ℕ) → i < n → j < m → T (f i j)
below_at_2 n m f t i j hi hj = below_at m (f i) (below_at n (λ i. below m (f i)) t i hi) j hj

-- f passes at each list of n Booleans
abbrev pub bools : ℕ → (List Bool → Bool) → Bool
bools zero f = f []
bools (suc n) f = bools n (λ bs. f (true ∷ bs)) && bools n (λ bs. f (false ∷ bs))

pub bools_at : (f : List Bool → Bool) (bs : List Bool) → T (bools (length bs) f) → T (f bs)
bools_at f [] t = t
bools_at f (true ∷ bs) t =
    bools_at (λ cs. f (true ∷ cs)) bs (and_left (bools (length bs) λ cs. f (true ∷ cs)) (bools (length bs) λ cs. f (false ∷ cs)) t)
bools_at f (false ∷ bs) t =
    bools_at (λ cs. f (false ∷ cs)) bs (and_right (bools (length bs) λ cs. f (true ∷ cs)) (bools (length bs) λ cs. f (false ∷ cs)) t)

-- a number is below another, or not
pub lt_or_le : (m n : ℕ) → (m < n) ⊎ (n ≤ m)
lt_or_le m n = by (ltb m n) refl
  where
    by : (b : Bool) → ltb m n ≡ b → (m < n) ⊎ (n ≤ m)
    by true e = inl (ltb-true m n e)
    by false e = inr (ltb-false m n e)

-- lists that pass the test are equal
pub same_list : (l m : List ℕ) → same l m ≡ true → l ≡ m
unfolding same
same_list [] [] e = refl
same_list [] (n ∷ m) e = cc
same_list (k ∷ l) [] e = cc
same_list (k ∷ l) (n ∷ m) e =
    let both = (and-eq-true_iff (eqb k n) (same l m)).0 e in
    ap₂ ◌∷◌ (eqb-true k n both.0) (same_list l m both.1)

pub leb-ltb : (m n : ℕ) → leb m n ≡ not (ltb n m)
leb-ltb m n = ⊎_elim (λ h. lt-leb m n h ∙ sym (ap not (lt-ltb n m h))) (λ h. le-leb m n h ∙ sym (ap not (le-ltb n m h))) (lt_or_le n m)

-- each of the tests that all hold
pub every_at : (bs : List Bool) → every bs ≡ true → (i : ℕ) → get_or bs i true ≡ true
unfolding every
every_at [] e i = refl
every_at (b ∷ bs) e zero = ((and-eq-true_iff b (every bs)).0 e).0
every_at (b ∷ bs) e (suc i) = every_at bs ((and-eq-true_iff b (every bs)).0 e).1 i
