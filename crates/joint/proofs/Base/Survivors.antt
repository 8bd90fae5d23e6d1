-- Which unforced records survive by a mask: none of none, none by 0, and of those that pass a test again some by a mask.
use Prim.Native.Nat.{ℕ, ◌+◌, ◌*◌, ◌/◌, ◌%◌}
use mathlib.Core.Path.{◌≡◌, refl, ap}
use mathlib.Core.Bool.{Bool, true, false, cond}
use mathlib.Core.List.{List, [], ◌∷◌, map}
use lib.Dec.{eqb}
use native.Mathlib.Omega.{arith}
use Rattle.codec.specs.Lists.{select}
use Rattle.joint.specs.State.{survivors}

-- whether the oldest one survives
abbrev pub keeps_first : ℕ → Bool
keeps_first keep = eqb (keep % 2) 1

module _ {ℓ} {A : Type ℓ} where
  pub survivors_none : (keep : ℕ) → survivors {A = A} keep [] ≡ []
  unfolding survivors
  survivors_none keep = refl

  -- by 0 all are lost
  pub survivors_lost : (xs : List A) → survivors 0 xs ≡ []
  unfolding survivors
  survivors_lost [] = refl
  survivors_lost (x ∷ xs) = survivors_lost xs

  -- the only one is kept, or lost
  pub survivors_one : (keep : ℕ) (x : A) (b : Bool) → keeps_first keep ≡ b → survivors keep (x ∷ []) ≡ cond b (x ∷ []) []
  unfolding survivors
  survivors_one keep x b e = rw e refl

pub map-survivors {ℓ κ} : {A : Type ℓ} {B : Type κ} (f : A → B) (keep : ℕ) (xs : List A) → map f (survivors keep xs) ≡ survivors keep (map f xs)
unfolding survivors
map-survivors f keep [] = refl
map-survivors {B} f keep (x ∷ xs) = go (keeps_first keep) (map-survivors f (keep / 2) xs)
  where
    go : (b : Bool) → map f (survivors (keep / 2) xs) ≡ survivors (keep / 2) (map f xs)
        → map f (cond b (x ∷ survivors (keep / 2) xs) (survivors (keep / 2) xs)) ≡ cond b (f x ∷ survivors (keep / 2) (map f xs)) (survivors (keep / 2) (map f xs))
    go true e = ap (λ (l : List B). f x ∷ l) e
    go false e = e

-- ---- those that pass a test

-- the mask's bits that stand for them
unfoldable pub mask_of {ℓ} : {A : Type ℓ} → (A → Bool) → ℕ → List A → ℕ
mask_of f keep [] = 0
mask_of f keep (x ∷ xs) = cond (f x) (keep % 2 + 2 * mask_of f (keep / 2) xs) (mask_of f (keep / 2) xs)

pub select-survivors {ℓ} : {A : Type ℓ} (f : A → Bool) (keep : ℕ) (xs : List A) → select f (survivors keep xs) ≡ survivors (mask_of f keep xs) (select f xs)
unfolding survivors select mask_of
select-survivors f keep [] = refl
select-survivors {A} f keep (x ∷ xs) = go (f x) refl (keeps_first keep) refl (select-survivors f (keep / 2) xs)
  where
    rest : List A
    rest = survivors (keep / 2) xs

    m : ℕ
    m = mask_of f (keep / 2) xs

    go : (b : Bool) → f x ≡ b → (c : Bool) → keeps_first keep ≡ c → select f rest ≡ survivors m (select f xs)
        → select f (cond c (x ∷ rest) rest) ≡ survivors (cond b (keep % 2 + 2 * m) m) (cond b (x ∷ select f xs) (select f xs))
    go true p c q e =
        let bit : (keep % 2 + 2 * m) % 2 ≡ keep % 2 = omega arith in
        let above : (keep % 2 + 2 * m) / 2 ≡ m = omega arith in
        unfold survivors select in rw (bit, above, q) (own c)
      where
        own : (c : Bool) → select f (cond c (x ∷ rest) rest) ≡ cond c (x ∷ survivors m (select f xs)) (survivors m (select f xs))
        own true = unfold select in (rw (p, e) refl)
        own false = e
    go false p true q e = unfold select in (rw p e)
    go false p false q e = e
