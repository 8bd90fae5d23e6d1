-- Sums over a list.
use Prim.Native.Nat.{ℕ, ◌+◌, ◌*◌}
use mathlib.Core.Path.{◌≡◌, refl, sym, ap₂, subst}
use mathlib.Core.Logic.{◌≢◌}
use mathlib.Core.Bool.{Bool, true, false, cond}
use mathlib.Core.List.{List, [], ◌∷◌, ◌++◌, map}
use native.Mathlib.Nat.{mul-suc}
use native.Mathlib.Omega.{arith}
use lib.ListN.{length}
use lib.Dec.{T, eqb}
use borrow.Author.Tests.{eqb-true, eqb-false}
use Rattle.codec.specs.Lists.{select}
use Rattle.joint.specs.Totals.{sum}

pub sum-append : (a b : List ℕ) → sum (a ++ b) ≡ sum a + sum b
unfolding sum
sum-append [] b = omega arith
sum-append (n ∷ a) b = omega (arith, sum-append a b)

pub sum_one : (n : ℕ) → sum (n ∷ []) ≡ n
unfolding sum
sum_one n = omega arith

pub sum_both : (f g : ℕ → ℕ) (l : List ℕ) → sum (map (λ s. f s + g s) l) ≡ sum (map f l) + sum (map g l)
unfolding sum
sum_both f g [] = refl
sum_both f g (s ∷ l) = omega (arith, sum_both f g l)

-- n at z, and 0 elsewhere
pub sum_at : (z n : ℕ) (l : List ℕ) → sum (map (λ s. cond (eqb s z) n 0) l) ≡ n * length (select (λ s. eqb s z) l)
unfolding sum select
sum_at z n [] = omega arith
sum_at z n (s ∷ l) = go (sum_at z n l) (eqb s z)
  where
    go : sum (map (λ s. cond (eqb s z) n 0) l) ≡ n * length (select (λ s. eqb s z) l) → (b : Bool)
        → cond b n 0 + sum (map (λ s. cond (eqb s z) n 0) l) ≡ n * length (cond b (s ∷ select (λ s. eqb s z) l) (select (λ s. eqb s z) l))
    go h true = rw h (omega arith)
    go h false = rw h (omega arith)

-- f and h are the same but at z, where f is d more
pub sum_change : (f h : ℕ → ℕ) (z d : ℕ) → ((s : ℕ) → s ≢ z → h s ≡ f s) → d + h z ≡ f z → (l : List ℕ)
    → d * length (select (λ s. eqb s z) l) + sum (map h l) ≡ sum (map f l)
unfolding sum select
sum_change f h z d same more [] = omega arith
sum_change f h z d same more (s ∷ l) = go (eqb s z) refl (sum_change f h z d same more l)
  where
    rest : List ℕ
    rest = select (λ s. eqb s z) l

    go : (b : Bool) → eqb s z ≡ b → d * length rest + sum (map h l) ≡ sum (map f l)
        → d * length (cond b (s ∷ rest) rest) + (h s + sum (map h l)) ≡ f s + sum (map f l)
    go true e ih = rw (eqb-true s z e) (omega (arith, more, ih, mul-suc d (length rest)))
    go false e ih = omega (arith, same s (eqb-false s z e), ih)

-- over those selected, where f and h are the same of them
pub sum_alike : (test : ℕ → Bool) (f h : ℕ → ℕ) → ((p : ℕ) → T (test p) → f p ≡ h p) → (l : List ℕ) → sum (map f (select test l)) ≡ sum (map h (select test l))
unfolding sum select
sum_alike test f h same [] = refl
sum_alike test f h same (p ∷ l) = go (test p) refl (sum_alike test f h same l)
  where
    go : (b : Bool) → test p ≡ b → sum (map f (select test l)) ≡ sum (map h (select test l))
        → sum (map f (cond b (p ∷ select test l) (select test l))) ≡ sum (map h (cond b (p ∷ select test l) (select test l)))
    go true e ih = unfold sum in ap₂ ◌+◌ (same p (subst T (sym e) tt)) ih
    go false e ih = ih
