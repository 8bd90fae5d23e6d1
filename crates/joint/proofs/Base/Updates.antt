-- Laws of `update`.
use Prim.Native.Nat.{ℕ}
use mathlib.Core.Path.{◌≡◌, refl}
use mathlib.Core.Logic.{◌≢◌}
use mathlib.Core.Bool.{Bool, true, false, cond}
use lib.Dec.{eqb}
use borrow.Author.Tests.{eq-eqb, ne_eqb, eqb-true}
use Rattle.joint.specs.State.{update}

-- f is changed at i by g; what h shows of it is changed at i by k
pub update-at {ℓ κ} : {A : Type ℓ} {B : Type κ} (h : A → B) (g : A → A) (k : B → B) (i : ℕ) (f : ℕ → A) → h (g (f i)) ≡ k (h (f i))
    → (j : ℕ) → h (update i g f j) ≡ update i k (λ n. h (f n)) j
unfolding update
update-at h g k i f e j = go (eqb j i) refl
  where
    go : (b : Bool) → eqb j i ≡ b → h (cond b (g (f j)) (f j)) ≡ cond b (k (h (f j))) (h (f j))
    go true q = rw (eqb-true j i q) e
    go false q = refl

pub update-keeps {ℓ κ} : {A : Type ℓ} {B : Type κ} (h : A → B) (g : A → A) → ((x : A) → h (g x) ≡ h x)
    → (i : ℕ) (f : ℕ → A) (j : ℕ) → h (update i g f j) ≡ h (f j)
unfolding update
update-keeps h g e i f j = go (eqb j i)
  where
    go : (b : Bool) → h (cond b (g (f j)) (f j)) ≡ h (f j)
    go true = e (f j)
    go false = refl

pub update_same {ℓ} : {A : Type ℓ} (i : ℕ) (g : A → A) (f : ℕ → A) → update i g f i ≡ g (f i)
unfolding update
update_same i g f = simp (eq-eqb i i refl)

pub update_other {ℓ} : {A : Type ℓ} (i j : ℕ) (g : A → A) (f : ℕ → A) → j ≢ i → update i g f j ≡ f j
unfolding update
update_other i j g f h = simp (ne_eqb j i h)

-- what a change keeps, at one place
pub update-point {ℓ κ} : {A : Type ℓ} (P : A → Type κ) (g : A → A) → ((x : A) → P x → P (g x)) → (i : ℕ) (f : ℕ → A) (j : ℕ) → P (f j) → P (update i g f j)
unfolding update
update-point P g k i f j h = go (eqb j i)
  where
    go : (b : Bool) → P (cond b (g (f j)) (f j))
    go true = k (f j) h
    go false = h
