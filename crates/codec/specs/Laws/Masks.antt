-- Masks of a byte: the set of those that pass a test, and what the machine's `&` and `|` compute. Assumes nothing.
use Rattle.std.specs.Prelude.{◌≡◌, refl, Bool, true, false, cond, not, ◌&&◌, ◌||◌, List, [], ◌∷◌, ℕ, zero, suc, ◌+◌, ◌-◌, ◌*◌, ◌/◌, ◌%◌, ◌^◌, min, max, ◌<◌, ◌≤◌, T, ltb, get_or}
use Rattle.std.proofs.Math.Path.{ap}
use Rattle.std.proofs.Common.{sym, ◌∙◌, arith, eqb→eq, ltb-true}
use Rattle.std.proofs.Math.Dec.{eqb}
use Rattle.std.specs.Int.Bits.{bit_and, bit_or, and_step, or_step}
use Rattle.std.proofs.lemmas.Nat.{and_shr, or_shr, and_le_l, or_lt}
use Rattle.codec.specs.Sets.{participants, member, bits, those, both, either, minus}
use Rattle.codec.specs.Laws.Tests.{and_left, and_right, true_of, alike, alike_eq, below, below_at, below_at_2, bools, bools_at}

-- ---- the machine's `&` and `|`: an operation op on each bit by itself

-- on last bits op is m, which is what f is of tests
module _ (op m : ℕ → ℕ → ℕ) (f : Bool → Bool → Bool) (step : (a b : ℕ) → op a b ≡ op (a / 2) (b / 2) * 2 + m (a % 2) (b % 2))
    (shifted : (a b p : ℕ) → op a b / 2 ^ p ≡ op (a / 2 ^ p) (b / 2 ^ p)) (none : m 0 0 ≡ 0)
    (last : T (below 2 (λ x. below 2 (λ y. ltb (m x y) 2 && alike (eqb (m x y) 1) (f (eqb x 1) (eqb y 1)))))) where
  double : (a b : ℕ) → 2 * op a b ≡ op (2 * a) (2 * b)
  double a b =
      let ea : 2 * a / 2 ≡ a = omega arith in
      let eb : 2 * b / 2 ≡ b = omega arith in
      let za : 2 * a % 2 ≡ 0 = omega arith in
      let zb : 2 * b % 2 ≡ 0 = omega arith in
      let e = rw (ea, eb, za, zb, none) at (step (2 * a) (2 * b)) in
      omega (arith, e)

  last-bits : (x y : ℕ) → (m (x % 2) (y % 2) < 2) × (eqb (m (x % 2) (y % 2)) 1 ≡ f (eqb (x % 2) 1) (eqb (y % 2) 1))
  last-bits x y =
      let b = m (x % 2) (y % 2) in
      let g = f (eqb (x % 2) 1) (eqb (y % 2) 1) in
      let t = below_at_2 2 2 (λ x y. ltb (m x y) 2 && alike (eqb (m x y) 1) (f (eqb x 1) (eqb y 1))) last (x % 2) (y % 2) (omega arith) (omega arith) in
      (ltb-true b 2 (true_of (ltb b 2) (and_left (ltb b 2) (alike (eqb b 1) g) t)), alike_eq (eqb b 1) g (and_right (ltb b 2) (alike (eqb b 1) g) t))

  last_bit : (x y : ℕ) → op x y % 2 ≡ m (x % 2) (y % 2)
  last_bit x y = omega (arith, step x y, (last-bits x y).0)

  bitwise : (p a b : ℕ) → member p (op a b) ≡ f (member p a) (member p b)
  unfolding member
  bitwise p a b =
      ap (λ (n : ℕ). eqb (n / 2 ^ p % 2) 1) (double a b)
      ∙ ap (λ (n : ℕ). eqb (n % 2) 1) (shifted (2 * a) (2 * b) p)
      ∙ ap (λ (n : ℕ). eqb n 1) (last_bit (2 * a / 2 ^ p) (2 * b / 2 ^ p))
      ∙ (last-bits (2 * a / 2 ^ p) (2 * b / 2 ^ p)).1

member_and : (p a b : ℕ) → member p (bit_and a b) ≡ (member p a && member p b)
member_and = bitwise bit_and min ◌&&◌ and_step and_shr refl tt

member_or : (p a b : ℕ) → member p (bit_or a b) ≡ (member p a || member p b)
member_or = bitwise bit_or max ◌||◌ or_step or_shr refl tt

-- ---- the set of those that pass a test

-- participants are told apart by their places, 0 to 7
pub those_alike : (f g : ℕ → Bool) → ((i : ℕ) → i < 8 → f (suc i) ≡ g (suc i)) → those f ≡ those g
unfolding those bits participants
those_alike f g h =
    rw (
      h 0 (omega arith),
      h 1 (omega arith),
      h 2 (omega arith),
      h 3 (omega arith),
      h 4 (omega arith),
      h 5 (omega arith),
      h 6 (omega arith),
      h 7 (omega arith),
    )

at_most : (b : Bool) (n : ℕ) → cond b n 0 ≤ n
at_most true n = omega arith
at_most false n = omega arith

-- each set is a byte
pub those-below : (f : ℕ → Bool) → those f < 256
unfolding those bits participants
those-below f =
    omega (
      arith,
      at_most (f 1) 1,
      at_most (f 2) 2,
      at_most (f 3) 4,
      at_most (f 4) 8,
      at_most (f 5) 16,
      at_most (f 6) 32,
      at_most (f 7) 64,
      at_most (f 8) 128,
    )

-- a mask is the set of its members
pub those-members : (m : ℕ) → m < 256 → those (λ p. member p m) ≡ m
unfolding those bits participants member
those-members m h = eqb→eq _ _ (below_at 256 (λ m. eqb (those λ p. member p m) m) tt m h)

abbrev eight : (ℕ → Bool) → List Bool
eight f = f 1 ∷ f 2 ∷ f 3 ∷ f 4 ∷ f 5 ∷ f 6 ∷ f 7 ∷ f 8 ∷ []

eight_at : (f : ℕ → Bool) (i : ℕ) → i < 8 → get_or (eight f) i false ≡ f (suc i)
eight_at f zero h = refl
eight_at f (suc zero) h = refl
eight_at f (suc (suc zero)) h = refl
eight_at f (suc (suc (suc zero))) h = refl
eight_at f (suc (suc (suc (suc zero)))) h = refl
eight_at f (suc (suc (suc (suc (suc zero))))) h = refl
eight_at f (suc (suc (suc (suc (suc (suc zero)))))) h = refl
eight_at f (suc (suc (suc (suc (suc (suc (suc zero))))))) h = refl
eight_at f (suc (suc (suc (suc (suc (suc (suc (suc i)))))))) h = absurd (omega (arith, h))

those_test : List Bool → ℕ → Bool
those_test bs i = alike (member (suc i) (those (λ p. get_or bs (p - 1) false))) (get_or bs i false)

those_tests : T (bools 8 (λ bs. below 8 (those_test bs)))
unfolding member those bits participants those_test
those_tests = tt

pub in_those : (f : ℕ → Bool) (i : ℕ) → i < 8 → member (suc i) (those f) ≡ f (suc i)
unfolding those bits participants those_test
in_those f i h = alike_eq _ _ (below_at 8 (those_test (eight f)) (bools_at (λ bs. below 8 (those_test bs)) (eight f) those_tests) i h) ∙ eight_at f i h

-- ---- sets by the machine's operations

member_rest : (b i : ℕ) → b < 256 → i < 8 → member (suc i) (255 - b) ≡ not (member (suc i) b)
unfolding member
member_rest b i hb hi = alike_eq _ _ (below_at_2 256 8 (λ b i. alike (member (suc i) (255 - b)) (not (member (suc i) b))) tt b i hb hi)

pub both_and : (a b : ℕ) → a < 256 → both a b ≡ bit_and a b
unfolding both
both_and a b h =
    those_alike (λ p. member p a && member p b) (λ p. member p (bit_and a b)) (λ i hi. sym (member_and (suc i) a b))
    ∙ those-members (bit_and a b) (omega (arith, and_le_l a b))

pub minus_and : (a b : ℕ) → a < 256 → b < 256 → minus a b ≡ bit_and a (255 - b)
unfolding minus
minus_and a b h hb =
    those_alike (λ p. member p a && not (member p b)) (λ p. member p (bit_and a (255 - b)))
    (λ i hi. sym (member_and (suc i) a (255 - b) ∙ ap (member (suc i) a &&◌) (member_rest b i hb hi)))
    ∙ those-members (bit_and a (255 - b)) (omega (arith, and_le_l a (255 - b)))

pub either_or : (a b : ℕ) → a < 256 → b < 256 → either a b ≡ bit_or a b
unfolding either
either_or a b h hb =
    those_alike (λ p. member p a || member p b) (λ p. member p (bit_or a b)) (λ i hi. sym (member_or (suc i) a b))
    ∙ those-members (bit_or a b) (or_lt 8 a b h hb)
