-- Arrays of the program as functions of the index: what a store, a fresh array and a pass over all elements do to the function.
use Prim.Native.Nat.{ℕ, zero, suc, ◌≤◌, ◌<◌}
use mathlib.Core.Path.{◌≡◌, refl, sym, ap, ◌∙◌, fun_ext}
use mathlib.Core.Bool.{Bool, true, false, cond}
use mathlib.Core.List.{List, [], ◌∷◌, map}
use lib.ListN.{length, get_or, set, length-map, replicate}
use lib.Seq.{get_or-set_same, get_or-set_other}
use lib.Dec.{eqb, ltb}
use borrow.Author.Tests.{eqb-true, eqb-false, ltb-true, ltb-false}
use native.Mathlib.Omega.{arith}
use Rattle.joint.specs.State.{update}

-- what owning an array of structs tells of its list
pub length-shown : (X Y : Type 0) (f : X → Y) (l : List X) (n : ℕ) → length (map f l) ≡ n → length l ≡ n
length-shown X Y f l n e = sym (length-map l f) ∙ e

-- element i is stored: what the array stands for is changed there
pub stored {ℓ κ} : {A : Type ℓ} {B : Type κ} (h : A → B) (g : B → B) (l : List A) (i : ℕ) (v d : A) → i < length l → h v ≡ g (h (get_or l i d))
    → (λ (j : ℕ). h (get_or (set l i v) j d)) ≡ update i g (λ j. h (get_or l j d))
unfolding update
stored {A} {B} h g l i v d lt e = fun_ext (λ j. go j (eqb j i) refl)
  where
    go : (j : ℕ) (b : Bool) → eqb j i ≡ b → h (get_or (set l i v) j d) ≡ cond b (g (h (get_or l j d))) (h (get_or l j d))
    go j true q = rw (eqb-true j i q, get_or-set_same l i v d lt) e
    go j false q = ap h (get_or-set_other l i j v d (eqb-false j i q))

-- past its end an array reads as its default
pub get_or_past {ℓ} : {A : Type ℓ} (l : List A) (j : ℕ) (d : A) → length l ≤ j → get_or l j d ≡ d
get_or_past [] j d h = refl
get_or_past (x ∷ l) zero d h = absurd (omega (arith, h))
get_or_past (x ∷ l) (suc j) d h = get_or_past l j d (omega (arith, h))

-- an array of the default stands for the default everywhere
pub all-default {ℓ} : {A : Type ℓ} (n j : ℕ) (d : A) → get_or (replicate n d) j d ≡ d
all-default zero j d = refl
all-default (suc n) zero d = refl
all-default (suc n) (suc j) d = all-default n j d

-- ---- a pass over an array: the first i elements are changed by g, the others are not yet

pub record Passed {A B : Type 0} (h : A → B) (g : B → B) (d : A) (before now : List A) (i : ℕ) : Type 0 where
  pub length_kept : length now ≡ length before
  pub front : (j : ℕ) → j < i → h (get_or now j d) ≡ g (h (get_or before j d))
  pub back : (j : ℕ) → i ≤ j → get_or now j d ≡ get_or before j d

module _ {A B : Type 0} (h : A → B) (g : B → B) (d : A) (before : List A) where
  -- all have been passed: the change holds at every index, if it leaves the default
  pub pass_ends : (now : List A) (i : ℕ) → Passed h g d before now i → length before ≤ i → h d ≡ g (h d)
      → ◌≡◌ {A = ℕ → B} (λ j. h (get_or now j d)) (λ j. g (h (get_or before j d)))
  pass_ends now i p l e = fun_ext (λ j. go j (ltb j i) refl)
    where
      go : (j : ℕ) (b : Bool) → ltb j i ≡ b → h (get_or now j d) ≡ g (h (get_or before j d))
      go j true q = p.front j (ltb-true j i q)
      go j false q =
          let past : i ≤ j = ltb-false j i q in
          rw (get_or_past now j d (omega (arith, past, l, p.length_kept)), get_or_past before j d (omega (arith, past, l))) e
