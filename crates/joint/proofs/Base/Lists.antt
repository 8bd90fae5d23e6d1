-- Laws of lists: of each element, of those that are taken or selected, and of one that is found.
use Prim.Native.Nat.{ℕ, zero, suc, ◌<◌, ◌≤◌}
use mathlib.Core.Path.{◌≡◌, refl, ap}
use mathlib.Core.Logic.{◌⊎◌, inl, inr, ⊎_elim}
use mathlib.Core.Bool.{Bool, true, false, cond, ◌||◌, or_assoc}
use mathlib.Core.List.{List, [], ◌∷◌, ◌++◌, map}
use native.Mathlib.Omega.{arith}
use lib.ListN.{length, get_or, take, drop}
use lib.Dec.{T}
use Rattle.codec.specs.Lists.{select, any}
use Rattle.joint.proofs.Base.Booleans.{or_left, or_right, or_cases}

-- ---- each element

abbrev pub Each : {A : Type 0} → (A → Type 0) → List A → Type 0
Each P [] = Unit {0}
Each P (x ∷ xs) = P x × Each P xs

module _ {A : Type 0} (P : A → Type 0) where
  pub each_append : (xs ys : List A) → Each P xs → Each P ys → Each P (xs ++ ys)
  each_append [] ys a b = b
  each_append (x ∷ xs) ys a b = (a.0, each_append xs ys a.1 b)

  pub each_take : (n : ℕ) (xs : List A) → Each P xs → Each P (take n xs)
  each_take zero xs a = tt
  each_take (suc n) [] a = tt
  each_take (suc n) (x ∷ xs) a = (a.0, each_take n xs a.1)

  pub each-cond : (b : Bool) (x : A) (xs : List A) → (T b → P x) → Each P xs → Each P (cond b (x ∷ xs) xs)
  each-cond true x xs h a = (h tt, a)
  each-cond false x xs h a = a

  -- of those selected: what their test says
  pub each_chosen : (f : A → Bool) → ((x : A) → T (f x) → P x) → (xs : List A) → Each P (select f xs)
  unfolding select
  each_chosen f h [] = tt
  each_chosen f h (x ∷ xs) = each-cond (f x) x (select f xs) (h x) (each_chosen f h xs)

  -- of those selected: what holds of all
  pub each_kept : (f : A → Bool) (xs : List A) → Each P xs → Each P (select f xs)
  unfolding select
  each_kept f [] a = tt
  each_kept f (x ∷ xs) a = each-cond (f x) x (select f xs) (λ t. a.0) (each_kept f xs a.1)

  pub each_at : (xs : List A) → Each P xs → (i : ℕ) → i < length xs → (x : A) → P (get_or xs i x)
  each_at [] a i h x = absurd (omega arith)
  each_at (y ∷ ys) a zero h x = a.0
  each_at (y ∷ ys) a (suc i) h x = each_at ys a.1 i (omega arith) x

  -- of the elements behind xs
  pub each_back : (xs ys : List A) → Each P (xs ++ ys) → Each P ys
  each_back [] ys a = a
  each_back (x ∷ xs) ys a = each_back xs ys a.1

pub each_map : {A : Type 0} (P Q : A → Type 0) → ((x : A) → P x → Q x) → (xs : List A) → Each P xs → Each Q xs
each_map P Q f [] a = tt
each_map P Q f (x ∷ xs) a = (f x a.0, each_map P Q f xs a.1)

-- ---- the first n, and the rest

pub drop-map {ℓ κ} : {A : Type ℓ} {B : Type κ} (f : A → B) (xs : List A) → drop 1 (map f xs) ≡ map f (drop 1 xs)
drop-map f [] = refl
drop-map f (x ∷ xs) = refl

pub map-take {ℓ κ} : {A : Type ℓ} {B : Type κ} (f : A → B) (n : ℕ) (xs : List A) → map f (take n xs) ≡ take n (map f xs)
map-take f zero xs = refl
map-take f (suc n) [] = refl
map-take {B} f (suc n) (x ∷ xs) = ap (λ (l : List B). f x ∷ l) (map-take f n xs)

-- ---- those selected

pub select_length : {A : Type 0} (f : A → Bool) (l : List A) → length (select f l) ≤ length l
unfolding select
select_length f [] = omega arith
select_length f (x ∷ l) = by (f x) (select_length f l)
  where
    by : (b : Bool) → length (select f l) ≤ length l → length (cond b (x ∷ select f l) (select f l)) ≤ suc (length l)
    by true h = omega (arith, h)
    by false h = omega (arith, h)

-- who passes h passes f: so no more are selected by h
pub select-within {ℓ} : {A : Type ℓ} (f h : A → Bool) → ((x : A) → T (h x) → T (f x)) → (l : List A) → length (select h l) ≤ length (select f l)
unfolding select
select-within f h within [] = omega arith
select-within f h within (x ∷ l) = go (f x) (h x) (within x) (select-within f h within l)
  where
    go : (b c : Bool) → (T c → T b) → length (select h l) ≤ length (select f l) → length (cond c (x ∷ select h l) (select h l)) ≤ length (cond b (x ∷ select f l) (select f l))
    go true true w e = omega (arith, e)
    go true false w e = omega (arith, e)
    go false true w e = absurd (w tt)
    go false false w e = e

-- how many of the first n pass f
unfoldable pub among {ℓ} : {A : Type ℓ} → (A → Bool) → ℕ → List A → ℕ
among f n xs = length (select f (take n xs))

cond-take {ℓ} : {A : Type ℓ} (b : Bool) (x : A) (xs ys : List A) → xs ≡ take (length xs) ys
    → cond b (x ∷ xs) xs ≡ take (length (cond b (x ∷ xs) xs)) (cond b (x ∷ ys) ys)
cond-take {A} true x xs ys e = ap (λ (l : List A). x ∷ l) e
cond-take false x xs ys e = e

-- the first n of a list, selected, are some first ones of those selected
pub select-take {ℓ} : {A : Type ℓ} (f : A → Bool) (n : ℕ) (xs : List A) → select f (take n xs) ≡ take (among f n xs) (select f xs)
unfolding select among
select-take f zero xs = refl
select-take f (suc n) [] = refl
select-take f (suc n) (x ∷ xs) = cond-take (f x) x (select f (take n xs)) (select f xs) (select-take f n xs)

-- ---- one of them

module _ {ℓ} {A : Type ℓ} where
  pub not-empty : (a : List A) (m : A) (b : List A) → [] ≡ a ++ (m ∷ b) → ⊥
  not-empty [] m b e = let z : ◌≡◌ {A = ℕ} 0 1 = cc in omega arith
  not-empty (x ∷ a) m b e = let z : ◌≡◌ {A = ℕ} 0 1 = cc in omega arith

  -- an element of two lists is in the first or in the second
  pub append_split : (xs ys a : List A) (m : A) (b : List A) → xs ++ ys ≡ a ++ (m ∷ b)
      → ((c : List A) × (xs ≡ a ++ (m ∷ c))) ⊎ ((d : List A) × (a ≡ xs ++ d) × (ys ≡ d ++ (m ∷ b)))
  append_split [] ys a m b e = inr (a, refl, e)
  append_split (x ∷ xs) ys [] m b e = inl (xs, cc)
  append_split (x ∷ xs) ys (y ∷ a) m b e = go (append_split xs ys a m b (cc))
    where
      go : ((c : List A) × (xs ≡ a ++ (m ∷ c))) ⊎ ((d : List A) × (a ≡ xs ++ d) × (ys ≡ d ++ (m ∷ b)))
          → ((c : List A) × (x ∷ xs ≡ y ∷ a ++ (m ∷ c))) ⊎ ((d : List A) × (y ∷ a ≡ x ∷ xs ++ d) × (ys ≡ d ++ (m ∷ b)))
      go (inl (c, p)) = inl (c, cc)
      go (inr (d, p, q)) = inr (d, cc, q)

module _ {ℓ} {A : Type ℓ} (f : A → Bool) where
  pub any_append : (xs ys : List A) → any f (xs ++ ys) ≡ (any f xs || any f ys)
  unfolding any
  any_append [] ys = refl
  any_append (x ∷ xs) ys = rw (any_append xs ys, or_assoc)

  pub any_cases : (xs ys : List A) → T (any f (xs ++ ys)) → T (any f xs) ⊎ T (any f ys)
  any_cases xs ys h = or_cases (any f xs) (any f ys) (rw any_append at h)

  pub any_more : (xs ys : List A) → T (any f xs) → T (any f (xs ++ ys))
  any_more xs ys h = rw any_append (or_left (any f xs) (any f ys) h)

  -- where the test is passed: by which element, with those before and behind it
  pub any_found : (xs : List A) → T (any f xs) → (a : List A) × (m : A) × (b : List A) × (xs ≡ a ++ (m ∷ b)) × T (f m)
  unfolding any
  any_found [] h = absurd h
  any_found (x ∷ xs) h =
      ⊎_elim (λ k. ([], x, xs, refl, k))
      (λ k. let d = any_found xs k in (x ∷ d.0, d.1, d.2, ap (λ (l : List A). x ∷ l) d.3, d.4))
      (or_cases (f x) (any f xs) h)

  -- a test that one element passes is passed by the list
  pub any_middle : (a : List A) (m : A) (b : List A) → T (f m) → T (any f (a ++ (m ∷ b)))
  unfolding any
  any_middle [] m b h = or_left (f m) (any f b) h
  any_middle (x ∷ a) m b h = or_right (f x) (any f (a ++ (m ∷ b))) (any_middle a m b h)
