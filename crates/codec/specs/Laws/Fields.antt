-- One record: its length, the tests on it, and its bytes. Assumes nothing.
use Rattle.std.specs.Prelude.{◌≡◌, Bool, not, ◌&&◌, ℕ, zero, suc, ◌+◌, ◌-◌, ◌<◌, ◌≤◌, T, eqb, leb, ltb, get_or}
use Rattle.std.proofs.Math.Path.{refl, ap}
use Rattle.std.proofs.Common.{sym, ◌∙◌, ⊎_elim, leb→le}
use Rattle.std.proofs.Math.Bool.{true, false, and-eq-true_iff, and-false, and-true}
use Rattle.std.proofs.lemmas.Bool.{false≢true}
use mathlib.Core.List.{List, [], ◌∷◌}
use native.Mathlib.Omega.{arith}
use borrow.Author.Tests.{le-leb, lt-leb, eq-eqb, ne_eqb, eqb-true}
use Rattle.std.proofs.Math.Dec.{eqb-suc-zero}
use Rattle.std.proofs.Math.ListN.{length, take, get_or-eq_default}
use Rattle.codec.specs.Lists.{every}
use Rattle.codec.specs.Records.{LogRecord, bytes_of, record_of, lengths, length_of, members_in, presume_commit_in, record_kind_at, kind_and_length, masks_in_range, fields_in_range}
use Rattle.codec.specs.Sets.{empty, part}
use Rattle.codec.specs.Answers.{record_in}
use Rattle.codec.specs.Inside.{record_from, may_follow, answer_to, answer_on}
use Rattle.codec.specs.declared.record.Record.{Record}
use Rattle.codec.specs.Laws.Tests.{below, below_at, of_true, lt_or_le}

-- ---- lengths

-- a rule of every length holds at each kind, and at 0 for what is no kind
lengths_all : (f : ℕ → Bool) → T (below 8 (λ k. f (length_of k))) → T (f 0) → (k : ℕ) → T (f (length_of k))
unfolding length_of lengths
lengths_all f t z k =
    ⊎_elim (λ h. below_at 8 (λ k. f (length_of k)) t k h)
    (λ h. rw (get_or-eq_default lengths 0 {n = k} h) z)
    (lt_or_le k 8)

pub length_most : (k : ℕ) → length_of k ≤ 4
unfolding length_of lengths
length_most k = leb→le _ _ (lengths_all (λ n. leb n 4) tt tt k)

pub not_one : (k : ℕ) → length_of k ≡ 1 → ⊥
unfolding length_of lengths
not_one k e = eqb-false_one (length_of k) (lengths_all (λ n. not (eqb n 1)) tt tt k) e
  where
    eqb-false_one : (n : ℕ) → T (not (eqb n 1)) → n ≡ 1 → ⊥
    eqb-false_one n t e = rw e at t

-- how many bytes a record has
pub bytes_length : (x : Record) → length (bytes_of (record_in x)) ≡ 2 + (length_of x.kind - 2)
unfolding bytes_of record_in
bytes_length x = omega (arith, by (length_of x.kind - 2) (omega (arith, length_most x.kind)))
  where
    by : (n : ℕ) → n ≤ 2 → length (take n (x.first ∷ x.second ∷ [])) ≡ n
    by zero h = refl
    by (suc zero) h = refl
    by (suc (suc n)) h = let e : n ≡ 0 = omega arith in rw e

-- ---- kinds of a site

pub at_coordinator : (s k : ℕ) → 1 ≤ k → k ≤ 4 → eqb s 0 ≡ record_kind_at s k
unfolding record_kind_at
at_coordinator zero k h g = sym (simp (le-leb 1 k h, le-leb k 4 g))
at_coordinator (suc s) k h g = eqb-suc-zero s ∙ sym (rw (lt-leb 5 k (omega arith)))

pub at_participant : (s k : ℕ) → 5 ≤ k → k ≤ 7 → not (eqb s 0) ≡ record_kind_at s k
unfolding record_kind_at
at_participant zero k h g = sym (simp (lt-leb k 4 (omega arith)) (and-false (leb 1 k)))
at_participant (suc s) k h g = ap not (eqb-suc-zero s) ∙ sym (simp (le-leb 5 k h, le-leb k 7 g))

pub no_kind_low : (s k : ℕ) → k < 1 → record_kind_at s k ≡ false
unfolding record_kind_at
no_kind_low zero k h = rw (lt-leb 1 k h)
no_kind_low (suc s) k h = rw (lt-leb 5 k (omega arith))

pub no_kind_high : (s k : ℕ) → 7 < k → record_kind_at s k ≡ false
unfolding record_kind_at
no_kind_high zero k h = rw (lt-leb k 4 (omega arith)) (and-false (leb 1 k))
no_kind_high (suc s) k h = rw (lt-leb k 7 h) (and-false (leb 5 k))

pub kind_low : (s k : ℕ) → record_kind_at s k ≡ true → k ≤ 7
kind_low s k e = ⊎_elim (λ h. absurd (false≢true (sym (no_kind_high s k h) ∙ e))) (λ h. h) (lt_or_le 7 k)

-- ---- the tests on a record

-- a kind has a length of at least 2
kind-length : (s k : ℕ) → record_kind_at s k ≡ true → 2 ≤ length_of k
unfolding length_of lengths
kind-length s k e = ⊎_elim by_low (λ h. absurd (rw (no_kind_high s k h) at (of_true e))) (lt_or_le k 8)
  where
    long : (k : ℕ) → 1 ≤ k → k < 8 → 2 ≤ length_of k
    long zero g h = absurd (omega arith)
    long (suc k) g h = leb→le _ _ (below_at 7 (λ k. leb 2 (length_of (suc k))) tt k (omega arith))

    by_low : k < 8 → 2 ≤ length_of k
    by_low h = ⊎_elim (λ z. absurd (rw (no_kind_low s k z) at (of_true e))) (λ g. long k g h) (lt_or_le k 1)

module _ (s : ℕ) (x : Record) where
  -- the length is that of the kind
  own_length : kind_and_length s (bytes_of (record_in x)) ≡ record_kind_at s x.kind
  unfolding kind_and_length record_of bytes_of record_in
  own_length = by (record_kind_at s x.kind) refl
    where
      by : (b : Bool) → record_kind_at s x.kind ≡ b → kind_and_length s (bytes_of (record_in x)) ≡ record_kind_at s x.kind
      by false e = rw e
      by true e =
          let two : 2 ≤ length_of x.kind = kind-length s x.kind e in
          let size : length (bytes_of (record_in x)) ≡ length_of x.kind = omega (arith, bytes_length x) in
          rw (e, eq-eqb _ _ size)

  -- so its kind, its transaction, its fields and the record before it decide
  pub judged_by : (y : LogRecord)
      → answer_on s (bytes_of (record_in x)) y x
      ≡ answer_to (not (record_kind_at s x.kind)) (ltb 7 x.transaction) (not (fields_in_range (record_in x))) (not (may_follow y (record_in x))) x
  unfolding record_of bytes_of record_in
  judged_by y = rw own_length

-- the other kinds have no fields
fieldless : (a b c : Bool) (k : ℕ) → 1 ≤ k → k < 8 → (k ≡ 1 → ⊥) → (k ≡ 2 → ⊥) → (k ≡ 5 → ⊥)
    → get_or (false ∷ a ∷ b ∷ true ∷ true ∷ c ∷ true ∷ true ∷ []) k false ≡ true
fieldless a b c zero low high n1 n2 n5 = absurd (omega arith)
fieldless a b c (suc zero) low high n1 n2 n5 = absurd (n1 refl)
fieldless a b c (suc (suc zero)) low high n1 n2 n5 = absurd (n2 refl)
fieldless a b c (suc (suc (suc zero))) low high n1 n2 n5 = refl
fieldless a b c (suc (suc (suc (suc zero)))) low high n1 n2 n5 = refl
fieldless a b c (suc (suc (suc (suc (suc zero))))) low high n1 n2 n5 = absurd (n5 refl)
fieldless a b c (suc (suc (suc (suc (suc (suc zero)))))) low high n1 n2 n5 = refl
fieldless a b c (suc (suc (suc (suc (suc (suc (suc zero))))))) low high n1 n2 n5 = refl
fieldless a b c (suc (suc (suc (suc (suc (suc (suc (suc k)))))))) low high n1 n2 n5 = absurd (omega arith)

past : (a b c : Bool) (k : ℕ) → 8 ≤ k → get_or (false ∷ a ∷ b ∷ true ∷ true ∷ c ∷ true ∷ true ∷ []) k false ≡ false
past a b c k h = get_or-eq_default (false ∷ a ∷ b ∷ true ∷ true ∷ c ∷ true ∷ true ∷ []) false h

module _ (x : Record) where
  pub fields_other : 1 ≤ x.kind → x.kind < 8 → (x.kind ≡ 1 → ⊥) → (x.kind ≡ 2 → ⊥) → (x.kind ≡ 5 → ⊥) → fields_in_range (record_in x) ≡ true
  unfolding fields_in_range record_in
  fields_other = fieldless _ _ _ x.kind

  pub fields-zero : x.kind < 1 → fields_in_range (record_in x) ≡ false
  unfolding fields_in_range record_in
  fields-zero h = let e : x.kind ≡ 0 = omega arith in rw e

  pub fields_high : 8 ≤ x.kind → fields_in_range (record_in x) ≡ false
  unfolding fields_in_range record_in
  fields_high h = past _ _ _ x.kind h

module _ (x : Record) (h : x.first < 256) where
  masks : every (leb 1 x.first ∷ leb x.first 255 ∷ part x.second x.first ∷ []) ≡ (leb 1 x.first && part x.second x.first)
  unfolding every
  masks = rw (le-leb x.first 255 (omega arith), and-true (part x.second x.first))

  pub fields_init : x.kind ≡ 1 → fields_in_range (record_in x) ≡ ((leb 1 x.first && part x.second x.first) && not (eqb x.second 0))
  unfolding fields_in_range masks_in_range members_in presume_commit_in record_in length_of lengths empty
  fields_init e = rw (e, masks)

  pub fields_commit : x.kind ≡ 2 → fields_in_range (record_in x) ≡ (leb 1 x.first && part x.second x.first)
  unfolding fields_in_range masks_in_range members_in presume_commit_in record_in length_of lengths
  fields_commit e = rw (e, masks)

pub fields_prepared : (x : Record) → x.kind ≡ 5 → fields_in_range (record_in x) ≡ leb x.first 1
unfolding fields_in_range record_in length_of lengths
fields_prepared x e = rw e

pub wrong_length : (s : ℕ) (bytes : List ℕ) → (length bytes ≡ length_of (get_or bytes 0 0) → ⊥) → kind_and_length s bytes ≡ false
unfolding kind_and_length record_of
wrong_length s bytes h = rw (ne_eqb (length bytes) (length_of (get_or bytes 0 0)) h) (and-false (record_kind_at s (get_or bytes 0 0)))

-- bytes of their kind's length are those of the record read from them
from : (bytes : List ℕ) → 1 ≤ length bytes → length bytes ≡ length_of (get_or bytes 0 0) → record_in (record_from bytes) ≡ record_of bytes
unfolding record_from record_in record_of
from [] h e = absurd (omega arith)
from (a ∷ []) h e = absurd (not_one a (sym e))
from (a ∷ b ∷ []) h e = rw (← e)
from (a ∷ b ∷ c ∷ []) h e = rw (← e)
from (a ∷ b ∷ c ∷ d ∷ []) h e = rw (← e)
from (a ∷ b ∷ c ∷ d ∷ f ∷ bytes) h e = absurd (omega (arith, length_most a))

module _ (s : ℕ) where
  -- no bytes, and kind 0
  no_kind : (bytes : List ℕ) → get_or bytes 0 0 ≡ 0 → kind_and_length s bytes ≡ false
  unfolding kind_and_length record_of
  no_kind bytes e = rw (e, no_kind_low s 0 (omega arith))

  pub read_as : (y : LogRecord) (bytes : List ℕ) → length bytes ≡ length_of (get_or bytes 0 0)
      → answer_on s (bytes_of (record_in (record_from bytes))) y (record_from bytes) ≡ answer_on s bytes y (record_from bytes)
  unfolding record_from record_in bytes_of record_of answer_to
  read_as y [] e = rw (no_kind (0 ∷ 0 ∷ take (length_of 0 - 2) (0 ∷ 0 ∷ [])) refl, no_kind [] refl)
  read_as y (a ∷ []) e = absurd (not_one a (sym e))
  read_as y (a ∷ b ∷ bytes) e =
      ap (λ (z : LogRecord). answer_on s (bytes_of z) y (record_from (a ∷ b ∷ bytes))) (from (a ∷ b ∷ bytes) (omega arith) e)

  pub from_bytes : (bytes : List ℕ) → kind_and_length s bytes ≡ true → record_in (record_from bytes) ≡ record_of bytes
  unfolding kind_and_length record_of
  from_bytes [] e = absurd (false≢true (sym (no_kind [] refl) ∙ e))
  from_bytes (a ∷ bytes) e =
      from (a ∷ bytes) (omega arith) (eqb-true (length (a ∷ bytes)) (length_of a) ((and-eq-true_iff (record_kind_at s a) _).0 e).1)
