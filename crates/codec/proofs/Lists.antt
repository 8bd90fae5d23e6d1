-- Lists: maps and stores. Assumes nothing.
use mathlib.Core.Path.{◌≡◌, refl, ap}
use mathlib.Core.List.{List, [], ◌∷◌, map}
use Prim.Native.Nat.{ℕ, zero, suc, ◌<◌}
use native.Mathlib.Nat.{not-suc-le-zero, le_of_suc-le-suc}
use lib.ListN.{length, get_or, set}

module _ {A B : Type 0} (f : A → B) where
  pub getD_map-below : (l : List A) (i : ℕ) (a : A) (b : B) → i < length l → get_or (map f l) i b ≡ f (get_or l i a)
  getD_map-below [] i a b h = absurd (not-suc-le-zero h)
  getD_map-below (x ∷ l) zero a b h = refl
  getD_map-below (x ∷ l) (suc i) a b h = getD_map-below l i a b (le_of_suc-le-suc h)

  pub map-set : (l : List A) (i : ℕ) (y : A) → map f (set l i y) ≡ set (map f l) i (f y)
  map-set [] i y = refl
  map-set (x ∷ l) zero y = refl
  map-set (x ∷ l) (suc i) y = ap (f x ∷◌) (map-set l i y)
