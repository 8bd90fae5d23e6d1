-- Members of a mask of a byte, and sets of one participant. Assumes nothing.
use Rattle.std.specs.Prelude.{◌≡◌, refl, Bool, true, false, cond, not, ◌&&◌, ◌||◌, ℕ, suc, ◌-◌, ◌*◌, ◌/◌, ◌%◌, ◌^◌, ◌<◌, ◌≤◌, eqb, ltb}
use Rattle.std.proofs.Common.{ap, sym, ◌∙◌, div-lt_iff_lt-mul, arith, eqb→eq, pow_pos, pow_mono, ltb-true, ltb-false}
use Rattle.std.proofs.lemmas.Bool.{false≢true}
use Rattle.codec.specs.Sets.{participants, member, bits, those, only, without, minus}
use Rattle.codec.specs.Laws.Tests.{or_none, alike, alike_eq, below_at, below_at_2}
use Rattle.codec.specs.Laws.Masks.{those_alike}

abbrev pub no_participant : ℕ → Bool
no_participant p = ltb p 1 || ltb 8 p

pub numbered : (p : ℕ) → no_participant p ≡ false → (1 ≤ p) × (p ≤ 8)
numbered p e =
    let r = or_none (ltb p 1) (ltb 8 p) e in
    (ltb-false p 1 r.0, ltb-false 8 p r.1)

zero_th : (p m : ℕ) → p < 1 → 2 * m / 2 ^ p % 2 ≡ 0
zero_th p m h =
    let e : p ≡ 0 = omega arith in
    rw e (omega arith)

-- a number below 2 ^ j has no bit from j on
pub high_bits : (n j k : ℕ) → n < 2 ^ j → j ≤ k → n / 2 ^ k ≡ 0
high_bits n j k h l =
    let small : n < 1 * 2 ^ k = omega (arith, h, pow_mono {i = j} {j = k} l) in
    let none : n / 2 ^ k < 1 = (div-lt_iff_lt-mul (pow_pos k)).1 small in
    omega arith

pub none_in : (p : ℕ) → member p 0 ≡ false
unfolding member
none_in p = rw (high_bits 0 0 p (omega arith) (omega arith)) refl

pub no_member : (p m : ℕ) → m < 256 → no_participant p ≡ true → member p m ≡ false
unfolding member
no_member p m h e = by (ltb p 1) refl e
  where
    by : (b : Bool) → ltb p 1 ≡ b → (b || ltb 8 p) ≡ true → eqb (2 * m / 2 ^ p % 2) 1 ≡ false
    by true a k = rw (zero_th p m (ltb-true p 1 a)) refl
    by false a k = rw (high_bits (2 * m) 9 p (omega (arith, h)) (ltb-true 8 p k)) refl

-- what is a member is a participant
pub member-participant : (p m : ℕ) → m < 256 → member p m ≡ true → no_participant p ≡ false
member-participant p m h e = by (no_participant p) refl
  where
    by : (b : Bool) → no_participant p ≡ b → no_participant p ≡ false
    by true n = absurd (false≢true (sym (no_member p m h n) ∙ e))
    by false n = n

bit_at : (k m : ℕ) → k < 8 → m < 256 → member (suc k) m ≡ eqb (m / 2 ^ k % 2) 1
unfolding member
bit_at k m hk h =
    alike_eq _ _ (below_at_2 8 256 (λ k m. alike (eqb (2 * m / 2 ^ suc k % 2) 1) (eqb (m / 2 ^ k % 2) 1)) tt k m hk h)

pub member_bit : (p m : ℕ) → m < 256 → no_participant p ≡ false → member p m ≡ eqb (m / 2 ^ (p - 1) % 2) 1
member_bit p m h e =
    let r = numbered p e in
    let s : p ≡ suc (p - 1) = omega (arith, r.0) in
    ap (λ (q : ℕ). member q m) s ∙ bit_at (p - 1) m (omega (arith, r.1)) h

-- as the program makes it
pub only_made : (p : ℕ) → p < 256 → only p ≡ cond (no_participant p) 0 (1 * 2 ^ (p - 1) % 256)
unfolding only those bits participants
only_made p h =
    eqb→eq _ _ (below_at 256 (λ p. eqb (those λ q. eqb q p) (cond (no_participant p) 0 (1 * 2 ^ (p - 1) % 256))) tt p h)

member-only : (p i : ℕ) → p < 256 → i < 8 → member (suc i) (only p) ≡ eqb (suc i) p
unfolding member only those bits participants
member-only p i h k =
    alike_eq _ _ (below_at_2 256 8 (λ p i. alike (member (suc i) (only p)) (eqb (suc i) p)) tt p i h k)

pub minus-only : (p m : ℕ) → p < 256 → minus m (only p) ≡ without p m
unfolding minus without
minus-only p m h =
    those_alike (λ q. member q m && not (member q (only p))) (λ q. member q m && not (eqb q p))
    (λ i k. ap (λ (b : Bool). member (suc i) m && not b) (member-only p i h k))
