-- Lists of transactions with no t, or with a single one, and those selected from them.
use Prim.Native.Nat.{ℕ, ◌<◌}
use mathlib.Core.Path.{◌≡◌, refl, sym, ap, ◌∙◌}
use mathlib.Core.Logic.{◌≢◌}
use mathlib.Core.Bool.{Bool, true, false, cond, not, ◌&&◌, true≢false, and-eq-true_iff}
use mathlib.Core.List.{List, [], ◌∷◌}
use lib.Dec.{eqb}
use borrow.Author.Tests.{eq-eqb, ne_eqb, eqb-true, eqb-false, not-true}
use Rattle.codec.specs.Lists.{select}
use Rattle.codec.specs.Laws.Tests.{true_of, below_at}
use Rattle.joint.specs.Plan.{transactions}

unfoldable pub absent : ℕ → List ℕ → Bool
absent t [] = true
absent t (u ∷ ts) = not (eqb u t) && absent t ts

unfoldable pub once : ℕ → List ℕ → Bool
once t [] = false
once t (u ∷ ts) = cond (eqb u t) (absent t ts) (once t ts)

module _ (t : ℕ) where
  pub absent_head : (u : ℕ) (ts : List ℕ) → absent t (u ∷ ts) ≡ true → (u ≢ t) × (absent t ts ≡ true)
  unfolding absent
  absent_head u ts h =
      let q = (and-eq-true_iff (not (eqb u t)) (absent t ts)).0 h in
      (eqb-false u t (not-true _ q.0), q.1)

  absent_cons : (u : ℕ) (ts : List ℕ) → u ≢ t → absent t ts ≡ true → absent t (u ∷ ts) ≡ true
  unfolding absent
  absent_cons u ts n h = rw (ne_eqb u t n) h

  module _ (f : ℕ → Bool) where
    -- what f does not select is not in the selected list
    pub select_absent : f t ≡ false → (ts : List ℕ) → absent t (select f ts) ≡ true
    unfolding select
    select_absent e [] = unfold absent in refl
    select_absent e (u ∷ ts) = go (f u) refl (select_absent e ts)
      where
        go : (b : Bool) → f u ≡ b → absent t (select f ts) ≡ true → absent t (cond b (u ∷ select f ts) (select f ts)) ≡ true
        go true q k = absent_cons u (select f ts) (λ c. absurd (true≢false (sym q ∙ ap f c ∙ e))) k
        go false q k = k

    absent_select : (ts : List ℕ) → absent t ts ≡ true → absent t (select f ts) ≡ true
    unfolding select
    absent_select [] h = h
    absent_select (u ∷ ts) h = go (f u) (absent_head u ts h).0 (absent_select ts (absent_head u ts h).1)
      where
        go : (b : Bool) → u ≢ t → absent t (select f ts) ≡ true → absent t (cond b (u ∷ select f ts) (select f ts)) ≡ true
        go true n k = absent_cons u (select f ts) n k
        go false n k = k

    pub once_select : f t ≡ true → (ts : List ℕ) → once t ts ≡ true → once t (select f ts) ≡ true
    unfolding once select
    once_select e [] h = h
    once_select e (u ∷ ts) h = go (eqb u t) refl h (once_select e ts)
      where
        other : (b : Bool) → eqb u t ≡ false → once t (select f ts) ≡ true → once t (cond b (u ∷ select f ts) (select f ts)) ≡ true
        other true q k = unfold once in (rw q k)
        other false q k = k

        go : (b : Bool) → eqb u t ≡ b → cond b (absent t ts) (once t ts) ≡ true → (once t ts ≡ true → once t (select f ts) ≡ true)
            → once t (cond (f u) (u ∷ select f ts) (select f ts)) ≡ true
        go true q k ih = rw (eqb-true u t q, e) (unfold once in (rw (eq-eqb t t refl) (absent_select ts k)))
        go false q k ih = other (f u) q (ih k)

pub once_transaction : (t : ℕ) → t < 8 → once t transactions ≡ true
unfolding once absent transactions
once_transaction t h = true_of _ (below_at 8 (λ u. once u transactions) tt t h)
