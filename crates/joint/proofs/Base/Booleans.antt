-- Laws of Booleans, by cases.
use Prim.Native.Nat.{ℕ}
use mathlib.Core.Path.{◌≡◌, refl, sym, subst, ◌∙◌}
use mathlib.Core.Logic.{◌⊎◌, inl, inr}
use mathlib.Core.Bool.{Bool, true, false, not, ◌&&◌, ◌||◌}
use lib.Dec.{T, eqb}
use borrow.Author.Tests.{eq-eqb, ne_eqb, eqb-true, eqb-false}
use Rattle.codec.specs.Laws.Tests.{alike}

-- a test that is asked for only where another holds
abbrev pub ◌⇒◌ : Bool → Bool → Bool
true ⇒ b = b
false ⇒ b = true

infixr 20 ◌⇒◌
pub mp : (a b : Bool) → T (a ⇒ b) → T a → T b
mp true b t u = t
mp false b t u = absurd u

pub to-⇒ : (a b : Bool) → (T a → T b) → T (a ⇒ b)
to-⇒ true b f = f tt
to-⇒ false b f = tt

pub and_both : (a b : Bool) → T a → T b → T (a && b)
and_both true b t u = u
and_both false b t u = absurd t

pub or_left : (a b : Bool) → T a → T (a || b)
or_left true b t = tt
or_left false b t = absurd t

pub or_right : (a b : Bool) → T b → T (a || b)
or_right true b t = tt
or_right false b t = t

pub or-either {ℓ} : {A : Type ℓ} (a b : Bool) → (T a → A) → (T b → A) → T (a || b) → A
or-either true b f g t = f tt
or-either false b f g t = g t

pub or_cases : (a b : Bool) → T (a || b) → T a ⊎ T b
or_cases a b = or-either a b inl inr

pub or_both : (a b c d : Bool) → (T a → T c) → (T b → T d) → T (a || b) → T (c || d)
or_both a b c d f g = or-either a b (λ t. or_left c d (f t)) (λ t. or_right c d (g t))

pub or_map : (a b c : Bool) → (T b → T c) → T (a || b) → T (a || c)
or_map a b c f = or_both a b a c (λ t. t) f

pub or_not : (a b : Bool) → T (not a) → T (a || b) → T b
or_not true b n t = absurd n
or_not false b n t = t

pub or_first : (a b : Bool) → T (a || b) → (T b → ⊥) → T a
or_first true b t f = tt
or_first false b t f = absurd (f t)

pub not-true : (b : Bool) → (T b → ⊥) → T (not b)
not-true true f = absurd (f tt)
not-true false f = tt

pub is_false : (b : Bool) → (T b → ⊥) → b ≡ false
is_false true f = absurd (f tt)
is_false false f = refl

pub of_false : {b : Bool} → b ≡ false → T (not b)
of_false e = subst (λ (b : Bool). T (not b)) (sym e) tt

pub both_ways : (b : Bool) → T b → T (not b) → ⊥
both_ways true t u = u
both_ways false t u = t

pub alike_same : (b : Bool) → T (alike b b)
alike_same true = tt
alike_same false = tt

pub clash : true ≡ false → ⊥
clash e = subst (λ (b : Bool). T b) e tt

pub eqb-sym : (m n : ℕ) → eqb m n ≡ eqb n m
eqb-sym m n = go (eqb m n) refl
  where
    go : (b : Bool) → eqb m n ≡ b → eqb m n ≡ eqb n m
    go true q = q ∙ sym (eq-eqb n m (sym (eqb-true m n q)))
    go false q = q ∙ sym (ne_eqb n m (λ e. eqb-false m n q (sym e)))
