-- How many effects a row has, and the first of them. Assumes nothing.
use mathlib.Core.Path.{◌≡◌, refl, ap, ap₂, sym, ◌∙◌}
use mathlib.Core.Bool.{Bool, true, false, cond, not, ◌&&◌}
use mathlib.Core.List.{List, [], ◌∷◌, ◌++◌, map}
use mathlib.Core.Logic.{◌⊎◌, inl, inr}
use Prim.Native.Nat.{ℕ, zero, suc, ◌+◌, ◌-◌, ◌≤◌, ◌<◌}
use native.Mathlib.Omega.{arith}
use lib.ListN.{length, take, get_or, length-append, length-map}
use lib.Seq.{take-nil}
use lib.Dec.{eqb, leb}
use borrow.Author.Tests.{ne_eqb, le-leb, lt-leb}
use Rattle.codec.specs.Sets.{listed}
use Rattle.site.specs.Step.{prepare, messages, force, send, given}
use Rattle.site.specs.Coordinator.{ordered}
use Rattle.site.specs.Numbers.{appending, entry_of}
use Rattle.site.specs.Answers.{fields_by, sending, effects_in}
use Rattle.site.specs.Inside.{up_to}
use Rattle.site.specs.Laws.Lists.{take-append}
use Rattle.site.specs.Laws.Order.{order_length}
use Rattle.site.specs.Laws.Parts.{five}
use Rattle.site.specs.declared.effects.Effects.{Effects}

-- ---- the length of each

suc-eqb : (n : ℕ) → eqb (suc n) 0 ≡ false
suc-eqb n = ne_eqb (suc n) 0 (λ e. omega (arith, e))

pub appending-length : (k : ℕ) (vs : List ℕ) → length (appending k vs) ≡ cond (not (eqb k 0)) 1 0
unfolding appending
appending-length zero vs = refl
appending-length (suc k) vs = rw suc-eqb

pub given-length : (b : Bool) → length (given b (force ∷ [])) ≡ cond b 1 0
unfolding given
given-length true = refl
given-length false = refl

pub entry_none : (k : ℕ) → (k < 1) ⊎ (2 < k) → 0 ≡ length (entry_of k)
unfolding entry_of
entry_none zero e = refl
entry_none (suc zero) (inl h) = absurd (omega (arith, h))
entry_none (suc zero) (inr h) = absurd (omega (arith, h))
entry_none (suc (suc zero)) (inl h) = absurd (omega (arith, h))
entry_none (suc (suc zero)) (inr h) = absurd (omega (arith, h))
entry_none (suc (suc (suc k))) e = refl

pub entry_one : (k : ℕ) → 1 ≤ k → k ≤ 2 → 1 ≡ length (entry_of k)
unfolding entry_of
entry_one zero l h = absurd (omega (arith, l))
entry_one (suc zero) l h = refl
entry_one (suc (suc zero)) l h = refl
entry_one (suc (suc (suc k))) l h = absurd (omega (arith, h))

pub no_sends : (t kind owing to : ℕ) → 7 < kind → 0 ≡ length (sending t kind owing to)
unfolding sending given
no_sends t kind owing to h = rw (lt-leb kind 7 h)

pub sending-length : (t kind owing to : ℕ) → kind ≤ 7 → length (sending t kind owing to) ≡ length (listed to)
unfolding sending given
sending-length t kind owing to h = rw (le-leb kind 7 h, length-map) (order_length t owing to)

-- ---- the first of each

take-one {ℓ} : {A : Type ℓ} (n : ℕ) (x : A) → take (suc n) (x ∷ []) ≡ x ∷ []
take-one {A} n x = ap (λ (l : List A). x ∷ l) (take-nil n)

pub appending-cut : (n k a b : ℕ) → take n (appending k (fields_by k a b)) ≡ appending (up_to n k) (fields_by (up_to n k) a b)
unfolding appending
appending-cut zero k a b = refl
appending-cut (suc n) zero a b = rw suc-eqb
appending-cut (suc n) (suc k) a b = rw (suc-eqb n) (take-one n _)

pub given-cut : (n : ℕ) (b : Bool) → take n (given b (force ∷ [])) ≡ given (b && not (eqb n 0)) (force ∷ [])
unfolding given
given-cut zero true = refl
given-cut zero false = refl
given-cut (suc n) true = rw (suc-eqb n) (take-one n _)
given-cut (suc n) false = refl

pub entry_cut : (n k : ℕ) → take n (entry_of k) ≡ entry_of (up_to n k)
unfolding entry_of
entry_cut zero k = refl
entry_cut (suc n) zero = rw (suc-eqb n)
entry_cut (suc n) (suc zero) = rw (suc-eqb n) (take-one n _)
entry_cut (suc n) (suc (suc zero)) = rw (suc-eqb n) (take-one n _)
entry_cut (suc n) (suc (suc (suc k))) = rw (suc-eqb n)

take-map : {A B : Type 0} (f : A → B) (n : ℕ) (l : List A) → take n (map f l) ≡ map f (take n l)
take-map f zero l = refl
take-map f (suc n) [] = refl
take-map {A} {B} f (suc n) (x ∷ l) = ap (λ (m : List B). f x ∷ m) (take-map f n l)

pub sending-cut : (t n kind owing to to' : ℕ) → ordered t owing to' ≡ take n (ordered t owing to) → take n (sending t kind owing to) ≡ sending t kind owing to'
unfolding sending given
sending-cut t n kind owing to to' e = by (leb kind 7)
  where
    by : (b : Bool) → take n (cond b (map (send (get_or messages kind prepare)) (ordered t owing to)) []) ≡ cond b (map (send (get_or messages kind prepare)) (ordered t owing to')) []
    by true = take-map (send (get_or messages kind prepare)) n (ordered t owing to) ∙ ap (map (send (get_or messages kind prepare))) (sym e)
    by false = take-nil n

-- ---- of a row

pub count_law : (t : ℕ) (e : Effects) (a f x s l : ℕ)
    → a ≡ cond (not (eqb e.appended 0)) 1 0 → f ≡ cond e.forced 1 0 → x ≡ length (entry_of e.entered)
    → s ≡ length (sending t e.message e.owing e.to) → l ≡ cond (not (eqb e.last 0)) 1 0
    → a + f + x + s + l ≡ length (effects_in t e)
count_law t e a f x s l ea ef ex es el =
    rw (five t e) (simp (length-append, appending-length, given-length) (omega (arith, ea, ef, ex, es, el)))

parts_taken : {A : Type 0} (n n₁ n₂ n₃ n₄ : ℕ) (a f e m l : List A)
    → n₁ ≡ n - length a → n₂ ≡ n₁ - length f → n₃ ≡ n₂ - length e → n₄ ≡ n₃ - length m
    → take n (a ++ (f ++ (e ++ (m ++ l)))) ≡ take n a ++ (take n₁ f ++ (take n₂ e ++ (take n₃ m ++ take n₄ l)))
parts_taken n n₁ n₂ n₃ n₄ a f e m l q₁ q₂ q₃ q₄ = simp (q₄, q₃, q₂, q₁, take-append)

pub cut_law : (t : ℕ) (e : Effects) (most forces enters sends closes to : ℕ)
    → forces ≡ most - cond (not (eqb e.appended 0)) 1 0
    → enters ≡ forces - cond e.forced 1 0
    → sends ≡ enters - length (entry_of e.entered)
    → closes ≡ sends - length (sending t e.message e.owing e.to)
    → ordered t e.owing to ≡ take sends (ordered t e.owing e.to)
    → effects_in t
    (record {
      appended = up_to most e.appended;
      first = e.first;
      second = e.second;
      forced = e.forced && not (eqb forces 0);
      entered = up_to enters e.entered;
      message = e.message;
      to = to;
      owing = e.owing;
      last = up_to closes e.last;
    })
    ≡ take most (effects_in t e)
cut_law t e most forces enters sends closes to ef ee es ec eo =
    five t _
    ∙ ap₂ ◌++◌ (sym (appending-cut most e.appended e.first e.second))
    (ap₂ ◌++◌ (sym (given-cut forces e.forced))
    (ap₂ ◌++◌ (sym (entry_cut enters e.entered))
    (ap₂ ◌++◌ (sym (sending-cut t sends e.message e.owing e.to to eo)) (sym (appending-cut closes e.last 0 0)))))
    ∙ sym (ap (take most) (five t e) ∙ parts_taken most forces enters sends closes _ _ _ _ _
    (ef ∙ ap (λ (k : ℕ). most - k) (sym (appending-length e.appended _)))
    (ee ∙ ap (λ (k : ℕ). forces - k) (sym (given-length e.forced)))
    es ec)
