-- Message numbers, and the three bytes that hold a message's parts. Assumes nothing.
use mathlib.Core.Path.{◌≡◌, refl, sym, ◌∙◌}
use mathlib.Core.List.{List, [], ◌∷◌}
use mathlib.Core.Option.{Option, none, some}
use mathlib.Core.Bool.{Bool, true, false, and-eq-true_iff}
use Prim.Native.Nat.{ℕ, suc, ◌<◌, ◌≤◌, ◌+◌, ◌*◌, ◌-◌, ◌/◌, ◌%◌}
use native.Mathlib.Omega.{arith}
use native.Mathlib.Nat.{mul-suc, mul-le-mul_left}
use mathlib.Core.Logic.{⊎_elim}
use borrow.Author.Tests.{eq-eqb, ne_eqb, le-leb, leb-true, lt-ltb, le-ltb, ltb-true}
use lib.Dec.{leb, ltb}
use lib.ListN.{set}
use Rattle.codec.specs.Lists.{every, only_if}
use Rattle.codec.specs.Messages.{Parts, message_number, message_parts, message_answer, parts_written, is_message, number_of, number_answer}
use Rattle.codec.specs.Answers.{written}
use Rattle.codec.specs.Laws.Tests.{lt_or_le}

-- ---- a number stepped down

-- `steps` were taken and `rest` is left, which has no more of them than are still to be tried
pub record Stepping (number step steps rest tried : ℕ) : Type 0 where
  pub few : tried ≤ 7
  pub taken : steps ≤ tried
  pub whole : number ≡ step * steps + rest
  pub left : rest < step * (8 - tried)

module _ {number step steps rest tried : ℕ} (s : Stepping number step steps rest tried) where
  pub step-taken : step ≤ rest → tried < 7 → Stepping number step (steps + 1) (rest - step) (tried + 1)
  step-taken fits again =
      let one_less : 8 - tried ≡ suc (8 - (tried + 1)) = omega arith in
      let less : rest < step * suc (8 - (tried + 1)) = rw (← one_less) s.left in
      record {
        few = omega arith;
        taken = omega (arith, s.taken);
        whole = omega (arith, s.whole, mul-suc step steps);
        left = omega (arith, less, mul-suc step (8 - (tried + 1)));
      }

  pub step_left : rest < step → tried < 7 → Stepping number step steps rest (tried + 1)
  step_left long again =
      let more : step * 1 ≤ step * (8 - (tried + 1)) = mul-le-mul_left step (omega arith) in
      record { few = omega arith; taken = omega (arith, s.taken); whole = s.whole; left = omega (arith, more) }

  pub stepped : 7 ≤ tried → (number ≡ step * steps + rest) × (rest < step)
  stepped ended =
      let last : 8 - tried ≡ 1 = omega (arith, s.few) in
      let less : rest < step * 1 = rw (← last) s.left in
      (s.whole, omega (arith, less))

-- ---- a number's parts

pub no_message : (n : ℕ) → 511 < n → message_answer (message_parts n) ≡ 26 ∷ []
unfolding message_parts only_if message_answer
no_message n h = rw (le-ltb n 512 h)

-- `t` steps of 56, `p` of 7, and `k` is left
pub parts_of : (n t p k rest : ℕ) → n < 448 → n ≡ 56 * t + rest → rest < 56 → rest ≡ 7 * p + k → k < 7
    → message_parts n ≡ some (record { transaction = t; participant = p + 1; kind = k })
unfolding message_parts only_if
parts_of n t p k rest few transactions in-transaction participants in-participant =
    let t-is : n / 56 ≡ t = omega arith in
    let p-is : n % 56 / 7 ≡ p = omega arith in
    let k-is : n % 7 ≡ k = omega arith in
    rw (lt-ltb n 512 (omega arith), lt-ltb n 448 few, t-is, p-is, k-is)

-- a read-only vote: from 448 on `t` steps of 8, and `p` is left
pub vote_of : (n t p : ℕ) → 448 ≤ n → n ≤ 511 → n - 448 ≡ 8 * t + p → p < 8
    → message_parts n ≡ some (record { transaction = t; participant = p + 1; kind = 7 })
unfolding message_parts only_if
vote_of n t p many few transactions in-transaction =
    let t-is : (n - 448) / 8 ≡ t = omega arith in
    let p-is : (n - 448) % 8 ≡ p = omega arith in
    rw (lt-ltb n 512 (omega arith), le-ltb n 448 many, t-is, p-is)

pub parts_written_lem : (o : Option Parts) (t p k : ℕ) (parts : List ℕ) → message_answer o ≡ 0 ∷ t ∷ p ∷ k ∷ [] → parts_written o parts ≡ written 0 (set (set (set parts 0 t) 1 p) 2 k)
unfolding message_answer parts_written
parts_written_lem none t p k parts e = let z : ◌≡◌ {A = ℕ} 26 0 = cc in absurd (omega arith)
parts_written_lem (some m) t p k parts e = cc

pub parts_refused : (o : Option Parts) (n : ℕ) (parts : List ℕ) → message_answer o ≡ n ∷ [] → parts_written o parts ≡ written n parts
unfolding message_answer parts_written
parts_refused none n parts e = cc
parts_refused (some m) n parts e = absurd cc

-- ---- a message's number

record InRange (m : Parts) : Type 0 where
  transaction : m.transaction ≤ 7
  one : 1 ≤ m.participant
  eight : m.participant ≤ 8
  kind : m.kind ≤ 7

module _ (m : Parts) where
  in_range : is_message m ≡ true → InRange m
  unfolding is_message every
  in_range e =
      let t = (and-eq-true_iff (leb m.transaction 7) _).0 e in
      let p = (and-eq-true_iff (leb 1 m.participant) _).0 t.1 in
      let q = (and-eq-true_iff (leb m.participant 8) _).0 p.1 in
      let k = (and-eq-true_iff (leb m.kind 7) _).0 q.1 in
      record { transaction = leb-true _ 7 t.0; one = leb-true 1 _ p.0; eight = leb-true _ 8 q.0; kind = leb-true _ 7 k.0 }

  pub participant_one : is_message m ≡ true → 1 ≤ m.participant
  participant_one e = (in_range e).one

  pub wrong_parts : is_message m ≡ false → number_answer (number_of m) ≡ 26 ∷ []
  unfolding number_of only_if number_answer
  wrong_parts e = rw e

  pub number_of_lem : is_message m ≡ true → {n : ℕ} → message_number m ≡ n → number_answer (number_of m) ≡ 0 ∷ n ∷ []
  unfolding number_of only_if number_answer
  number_of_lem e is = rw (e, is)

  pub low_number : (m.kind ≡ 7 → ⊥) → message_number m ≡ 56 * m.transaction + 7 * (m.participant - 1) + m.kind
  unfolding message_number
  low_number other = rw (ne_eqb m.kind 7 other)

  pub vote_number : m.kind ≡ 7 → message_number m ≡ 448 + 8 * m.transaction + (m.participant - 1)
  unfolding message_number
  vote_number e = rw (eq-eqb m.kind 7 e)

-- ---- there and back

only_if_lem : {A : Type 0} (b : Bool) (x y : A) → only_if b x ≡ some y → (b ≡ true) × (x ≡ y)
unfolding only_if
only_if_lem true x y e = (refl, cc)
only_if_lem false x y e = let z : ◌≡◌ {A = ℕ} 0 1 = cc in absurd (omega arith)

-- the number of parts in range
numbered : (m : Parts) {n : ℕ} → InRange m → message_number m ≡ n → number_of m ≡ some n
unfolding number_of is_message every only_if
numbered m r e = rw (le-leb _ 7 r.transaction, le-leb 1 _ r.one, le-leb _ 8 r.eight, le-leb _ 7 r.kind, e)

low_again : (n : ℕ) → n < 448 → number_of (record { transaction = n / 56; participant = n % 56 / 7 + 1; kind = n % 7 }) ≡ some n
low_again n h =
    numbered _ (record { transaction = omega arith; one = omega arith; eight = omega arith; kind = omega arith }) (low_number _ (λ e. omega arith) ∙ omega arith)

vote_again : (n : ℕ) → 448 ≤ n → n < 512 → number_of (record { transaction = (n - 448) / 8; participant = (n - 448) % 8 + 1; kind = 7 }) ≡ some n
vote_again n h l =
    numbered _ (record { transaction = omega arith; one = omega arith; eight = omega arith; kind = omega arith }) (vote_number _ refl ∙ omega arith)

-- a number's parts have that number
pub number_again : (n : ℕ) (m : Parts) → message_parts n ≡ some m → number_of m ≡ some n
unfolding message_parts
number_again n m e =
    let is = only_if_lem (ltb n 512) _ m e in
    rw (← is.1)
    (⊎_elim (λ h. rw (lt-ltb n 448 h) (low_again n h)) (λ h. rw (le-ltb n 448 h) (vote_again n h (ltb-true n 512 is.0))) (lt_or_le n 448))

module _ (m : Parts) (n : ℕ) (r : InRange m) (e : message_number m ≡ n) where
  same-participant : m.participant - 1 + 1 ≡ m.participant
  same-participant = omega arith

  low_parts : m.kind < 7 → message_parts n ≡ some m
  low_parts h =
      let number = sym (low_number m (λ k. omega arith)) ∙ e in
      rw same-participant at (parts_of n m.transaction (m.participant - 1) m.kind (7 * (m.participant - 1) + m.kind) (omega arith) (omega arith) (omega arith) refl h)

  vote_parts : m.kind ≡ 7 → message_parts n ≡ some m
  vote_parts k =
      let number = sym (vote_number m k) ∙ e in
      rw (same-participant, ← k) at (vote_of n m.transaction (m.participant - 1) (omega arith) (omega arith) (omega arith) (omega arith))

-- and a message's number has its parts
pub parts_again : (m : Parts) (n : ℕ) → number_of m ≡ some n → message_parts n ≡ some m
unfolding number_of
parts_again m n e =
    let is = only_if_lem (is_message m) (message_number m) n e in
    let r = in_range m is.0 in
    ⊎_elim (low_parts m n r is.1) (λ h. vote_parts m n r is.1 (omega arith)) (lt_or_le m.kind 7)
