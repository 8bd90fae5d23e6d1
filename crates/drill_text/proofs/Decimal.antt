-- Numbers in decimal digits, stored one by one or counted. Assumes nothing.
use Rattle.std.proofs.Common.{ℕ, zero, suc, ◌+◌, ◌-◌, ◌*◌, ◌/◌, ◌%◌, ◌≤◌, ◌<◌, ◌≡◌, refl, sym, ap, ◌∙◌, Bool, true, false, ltb, List, [], ◌∷◌, ◌++◌, length, get_or, set, drop, arith, add-one, drop-cons, length-append, length-set}
use native.Mathlib.Nat.{mod-eq_of_lt}
use mathlib.Core.List.{append_assoc}
use lib.Seq.{get_or-set_same, drop-set-lt}
use borrow.Author.Tests.{lt-ltb, le-ltb, ltb-true, ltb-false}
use Rattle.std.proofs.lemmas.Grind.{get_or_default_zero}
use Rattle.std.proofs.lemmas.Slice.Eq.{text_from_reads}
use Rattle.joint.specs.Drill.{decimal}
use Rattle.drill_text.specs.Decimal.{AllDigits, value_from, value}

-- 10 ^ k
abbrev pub tens : ℕ → ℕ
tens zero = 1
tens (suc k) = 10 * tens k

pub decimal_one : (k n : ℕ) → n < 10 → decimal k n ≡ (48 + n) ∷ []
unfolding decimal
decimal_one zero n h = rw (mod-eq_of_lt h)
decimal_one (suc k) n h = rw (decimal, lt-ltb n 10 h)

decimal_more : (k n : ℕ) → 10 ≤ n → decimal (suc k) n ≡ decimal k (n / 10) ++ ((48 + n % 10) ∷ [])
unfolding decimal
decimal_more k n h = rw (decimal, le-ltb n 10 h)

-- a wider bound gives the same digits
pub decimal_wider : (j k n : ℕ) → j ≤ k → n < tens (suc j) → decimal k n ≡ decimal j n
decimal_wider zero k n l h = decimal_one k n h ∙ sym (decimal_one 0 n h)
decimal_wider (suc j) zero n l h = absurd (omega (arith, l))
decimal_wider (suc j) (suc k) n l h = go (decimal_wider j k (n / 10) (omega (arith, l)) (omega (arith, h))) (ltb n 10) refl
  where
    go : decimal k (n / 10) ≡ decimal j (n / 10) → (b : Bool) → ltb n 10 ≡ b → decimal (suc k) n ≡ decimal (suc j) n
    go e true q = decimal_one (suc k) n (ltb-true n 10 q) ∙ sym (decimal_one (suc j) n (ltb-true n 10 q))
    go e false q =
        let more = ltb-false n 10 q in
        decimal_more k n more ∙ ap (◌++ ((48 + n % 10) ∷ [])) e ∙ sym (decimal_more j n more)

-- ---- how many there are

tens_positive : (j : ℕ) → 1 ≤ tens j
tens_positive zero = omega arith
tens_positive (suc j) = omega (arith, tens_positive j)

digits_at : (k j n : ℕ) → j ≤ k → tens j ≤ n → n < tens (suc j) → length (decimal k n) ≡ suc j
digits_at k zero n l a b = ap length (decimal_one k n (omega (arith, b)))
digits_at zero (suc j) n l a b = absurd (omega (arith, l))
digits_at (suc k) (suc j) n l a b =
    ap length (decimal_more k n (omega (arith, a, tens_positive j)))
    ∙ simp (length-append, digits_at k j (n / 10) (omega (arith, l)) (omega (arith, a)) (omega (arith, b))) (add-one (suc j))

pub counted : (j n : ℕ) → j ≤ 5 → tens j ≤ n → n < tens (suc j) → (suc j ≡ length (decimal 5 n)) × (suc j ≤ 6)
counted j n l a b = (sym (digits_at 5 j n l a b), omega (arith, l))

-- ---- stored from the last to the first

set_front : (l : List ℕ) (i d : ℕ) → i < length l → drop i (set l i d) ≡ d ∷ drop (suc i) l
set_front l i d h =
    drop-cons (set l i d) i 0 (simp length-set h) ∙ rw (get_or-set_same l i d 0 h, drop-set-lt (suc i) l i d (omega arith))

-- the digits behind i are stored, and those of `rest` are left
pub record Ended (n : ℕ) (of : List ℕ) (rest i : ℕ) : Type 0 where
  pub most : i ≤ 19
  pub size : length of ≡ 20
  pub small : rest < tens (suc i)
  pub all : decimal 19 n ≡ decimal i rest ++ drop (suc i) of

module _ {n : ℕ} {of : List ℕ} {rest i : ℕ} (t : Ended n of rest i) where
  -- one digit more
  pub ended_more : 10 ≤ rest → 1 ≤ i
  ended_more h = go i t.small
    where
      go : (i : ℕ) → rest < tens (suc i) → 1 ≤ i
      go zero k = absurd (omega (arith, h, k))
      go (suc i) k = omega arith

  pub ended_next : (j : ℕ) → i ≡ suc j → 10 ≤ rest → Ended n (set of i (48 + rest % 10)) (rest / 10) j
  ended_next j e h =
      record {
        most = omega (arith, t.most, e);
        size = simp length-set t.size;
        small = omega (arith, rw e at t.small);
        all =
            t.all
            ∙ rw e
            (ap (◌++ drop (suc (suc j)) of) (decimal_more j rest h)
            ∙ append_assoc (decimal j (rest / 10)) ((48 + rest % 10) ∷ []) (drop (suc (suc j)) of)
            ∙ ap (decimal j (rest / 10) ++◌) (sym (set_front of (suc j) (48 + rest % 10) (omega (arith, t.most, t.size, e)))));
      }

  -- the first digit
  pub ended_last : rest < 10 → drop i (set of i (48 + rest)) ≡ decimal 19 n
  ended_last h = set_front of i (48 + rest) (omega (arith, t.most, t.size)) ∙ sym (t.all ∙ ap (◌++ drop (suc i) of) (decimal_one i rest h))

-- ---- five digits that are counted

-- n, and a digit behind it
abbrev with_digit : ℕ → ℕ → ℕ
with_digit n c = 10 * n + (c - 48)

module _ (k n c : ℕ) (h : (48 ≤ c) × (c ≤ 57)) where
  first_digit : n ≡ 0 → decimal k (with_digit n c) ≡ c ∷ []
  first_digit e =
      let same : 48 + with_digit n c ≡ c = omega (arith, h.0, h.1) in
      decimal_one k (with_digit n c) (omega (arith, h.0, h.1)) ∙ ap (◌∷ []) same

  next_digit : (cs : List ℕ) → 1 ≤ n → decimal k n ≡ cs → decimal (suc k) (with_digit n c) ≡ cs ++ (c ∷ [])
  next_digit cs m e =
      let front : with_digit n c / 10 ≡ n = omega (arith, h.0, h.1) in
      let last : 48 + with_digit n c % 10 ≡ c = omega (arith, h.0, h.1) in
      decimal_more k (with_digit n c) (omega arith) ∙ rw (front, last, e)

-- a character that is a digit
abbrev pub Digit : ℕ → Type 0
Digit c = (48 ≤ c) × (c ≤ 57)

pub five_digits : {a b c d e : ℕ} → Digit a → Digit b → Digit c → Digit d → Digit e → AllDigits (a ∷ b ∷ c ∷ d ∷ e ∷ [])
five_digits p q r s t zero = p
five_digits p q r s t (suc zero) = q
five_digits p q r s t (suc (suc zero)) = r
five_digits p q r s t (suc (suc (suc zero))) = s
five_digits p q r s t (suc (suc (suc (suc zero)))) = t
five_digits p q r s t (suc (suc (suc (suc (suc k))))) = (omega arith, omega arith)

module _ (l : List ℕ) (five : length l ≡ 5) (digits : AllDigits l) where
  abbrev at : ℕ → ℕ
  at k = get_or l k 0

  pub digit : (k : ℕ) → k < 5 → Digit (at k)
  digit k h = let e = get_or_default_zero l k 48 (omega (arith, five)) in rw e at (digits k)

  spelled : l ≡ at 0 ∷ at 1 ∷ at 2 ∷ at 3 ∷ at 4 ∷ []
  spelled = text_from_reads l (at 0 ∷ at 1 ∷ at 2 ∷ at 3 ∷ at 4 ∷ []) five (refl, (refl, (refl, (refl, (refl, tt)))))

  -- the digits from the first that is not 0
  pub shown_one : at 0 ≡ 48 → at 1 ≡ 48 → at 2 ≡ 48 → at 3 ≡ 48 → decimal 5 (value l) ≡ at 4 ∷ []
  unfolding value_from
  shown_one a b c d = ap (λ (m : List ℕ). decimal 5 (value m)) spelled ∙ rw (a, b, c, d) (first_digit 5 0 (at 4) (digit 4 (omega arith)) refl)

  pub shown_two : at 0 ≡ 48 → at 1 ≡ 48 → at 2 ≡ 48 → (at 3 ≡ 48 → ⊥) → decimal 5 (value l) ≡ at 3 ∷ at 4 ∷ []
  unfolding value_from
  shown_two a b c n =
      let d = digit 3 (omega arith) in
      ap (λ (m : List ℕ). decimal 5 (value m)) spelled ∙ rw (a, b, c) (next_digit 4 _ (at 4) (digit 4 (omega arith)) _ (omega (arith, d.0, n)) (first_digit 4 0 (at 3) d refl))

  pub shown_three : at 0 ≡ 48 → at 1 ≡ 48 → (at 2 ≡ 48 → ⊥) → decimal 5 (value l) ≡ at 2 ∷ at 3 ∷ at 4 ∷ []
  unfolding value_from
  shown_three a b n =
      let c = digit 2 (omega arith) in
      let two = next_digit 3 _ (at 3) (digit 3 (omega arith)) _ (omega (arith, c.0, n)) (first_digit 3 0 (at 2) c refl) in
      ap (λ (m : List ℕ). decimal 5 (value m)) spelled ∙ rw (a, b) (next_digit 4 _ (at 4) (digit 4 (omega arith)) _ (omega (arith, c.0, n)) two)

  pub shown_four : at 0 ≡ 48 → (at 1 ≡ 48 → ⊥) → decimal 5 (value l) ≡ at 1 ∷ at 2 ∷ at 3 ∷ at 4 ∷ []
  unfolding value_from
  shown_four a n =
      let b = digit 1 (omega arith) in
      let two = next_digit 2 _ (at 2) (digit 2 (omega arith)) _ (omega (arith, b.0, n)) (first_digit 2 0 (at 1) b refl) in
      let three = next_digit 3 _ (at 3) (digit 3 (omega arith)) _ (omega (arith, b.0, n)) two in
      ap (λ (m : List ℕ). decimal 5 (value m)) spelled ∙ rw a (next_digit 4 _ (at 4) (digit 4 (omega arith)) _ (omega (arith, b.0, n)) three)

  pub shown_five : (at 0 ≡ 48 → ⊥) → decimal 5 (value l) ≡ at 0 ∷ at 1 ∷ at 2 ∷ at 3 ∷ at 4 ∷ []
  unfolding value_from
  shown_five n =
      let a = digit 0 (omega arith) in
      let two = next_digit 1 _ (at 1) (digit 1 (omega arith)) _ (omega (arith, a.0, n)) (first_digit 1 0 (at 0) a refl) in
      let three = next_digit 2 _ (at 2) (digit 2 (omega arith)) _ (omega (arith, a.0, n)) two in
      let four = next_digit 3 _ (at 3) (digit 3 (omega arith)) _ (omega (arith, a.0, n)) three in
      ap (λ (m : List ℕ). decimal 5 (value m)) spelled ∙ next_digit 4 _ (at 4) (digit 4 (omega arith)) _ (omega (arith, a.0, n)) four

  -- the number
  pub value_is : value l + 533328 ≡ 10000 * at 0 + 1000 * at 1 + 100 * at 2 + 10 * at 3 + at 4
  unfolding value_from
  value_is =
      ap (λ (m : List ℕ). value m + 533328) spelled
      ∙ omega (arith, digit 0 (omega arith), digit 1 (omega arith), digit 2 (omega arith), digit 3 (omega arith), digit 4 (omega arith))

-- five digits that show n
pub digits_of : {a b c d e : ℕ} → Digit a → Digit b → Digit c → Digit d → Digit e → (n : ℕ) → n + 533328 ≡ 10000 * a + 1000 * b + 100 * c + 10 * d + e
    → AllDigits (a ∷ b ∷ c ∷ d ∷ e ∷ []) × (value (a ∷ b ∷ c ∷ d ∷ e ∷ []) ≡ n)
digits_of {a} {b} {c} {d} {e} p q r s t n h =
    let all = five_digits p q r s t in
    (all, omega (arith, value_is (a ∷ b ∷ c ∷ d ∷ e ∷ []) refl all, h))
