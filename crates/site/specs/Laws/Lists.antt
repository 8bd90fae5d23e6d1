-- Lists of which some are taken: those that pass a test, and the first so many. Assumes nothing.
use Rattle.std.specs.Prelude.{◌≡◌, refl, Bool, true, false, cond, ◌&&◌, List, [], ◌∷◌, ◌++◌, ℕ, zero, suc, ◌-◌, length, take}
use Rattle.std.proofs.Common.{ap, arith}
use Rattle.std.proofs.Math.Nat.{sub-zero, suc-sub-suc}
use Rattle.std.proofs.Math.Seq.{take-nil}
use Rattle.codec.specs.Lists.{select}

pub select-none {ℓ} : {A : Type ℓ} (f : A → Bool) (xs : List A) → ((x : A) → f x ≡ false) → select f xs ≡ []
unfolding select
select-none f [] h = refl
select-none f (x ∷ xs) h = rw (h x) (select-none f xs h)

pub select-select {ℓ} : {A : Type ℓ} (f g : A → Bool) (xs : List A) → select g (select f xs) ≡ select (λ x. f x && g x) xs
unfolding select
select-select f g [] = refl
select-select {A} f g (x ∷ xs) = by (f x) (select-select f g xs)
  where
    by : (b : Bool) → select g (select f xs) ≡ select (λ x. f x && g x) xs
        → select g (cond b (x ∷ select f xs) (select f xs)) ≡ cond (b && g x) (x ∷ select (λ x. f x && g x) xs) (select (λ x. f x && g x) xs)
    by true e = ap (λ (l : List A). cond (g x) (x ∷ l) l) e
    by false e = e

pub select-append {ℓ} : {A : Type ℓ} (f : A → Bool) (xs ys : List A) → select f (xs ++ ys) ≡ select f xs ++ select f ys
unfolding select
select-append f [] ys = refl
select-append {A} f (x ∷ xs) ys = by (f x) (select-append f xs ys)
  where
    by : (b : Bool) → select f (xs ++ ys) ≡ select f xs ++ select f ys → cond b (x ∷ select f (xs ++ ys)) (select f (xs ++ ys)) ≡ cond b (x ∷ select f xs) (select f xs) ++ select f ys
    by true e = ap (λ (l : List A). x ∷ l) e
    by false e = e

pub take-append {ℓ} : {A : Type ℓ} (n : ℕ) (xs ys : List A) → take n (xs ++ ys) ≡ take n xs ++ take (n - length xs) ys
take-append n [] ys = rw (sub-zero, take-nil)
take-append zero (x ∷ xs) ys = let z : 0 - length (x ∷ xs) ≡ 0 = omega arith in rw z
take-append {A} (suc n) (x ∷ xs) ys = rw suc-sub-suc (ap (λ (l : List A). x ∷ l) (take-append n xs ys))
