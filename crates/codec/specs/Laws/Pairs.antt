-- The pairs of a table, read one after the other. Assumes nothing.
use Rattle.std.specs.Prelude.{◌≡◌, refl, false, eqb, length, get_or, take}
use Rattle.std.proofs.Math.Path.{ap, ap₂, sym}
use Rattle.std.proofs.Common.{◌∙◌, length-take, drop_of_length-le, get_or-take, get_or-drop, drop-drop}
use mathlib.Core.List.{List, [], ◌∷◌}
use Prim.Native.Nat.{ℕ, zero, suc, ◌+◌, ◌*◌, ◌<◌, ◌≤◌}
use native.Mathlib.Omega.{arith}
use borrow.Author.Tests.{eq-eqb, ne_eqb, le-leb}
use Rattle.std.proofs.Math.ListN.{drop, length-drop, length-map}
use Rattle.codec.specs.Image.{head_length, pairs_of, count_in, pairs_in, records_in, exact, table_exact}
use Rattle.codec.specs.Inside.{word_at}
use Rattle.codec.specs.Laws.Tables.{length_pairs}

pairs_drop : (i : ℕ) (table : List ℕ) → drop i (pairs_of table) ≡ pairs_of (drop (4 * i) table)
unfolding pairs_of
pairs_drop zero table = refl
pairs_drop (suc i) table = let four : 4 * suc i ≡ suc (suc (suc (suc (4 * i)))) = omega arith in rw four (by table (pairs_drop i))
  where
    by : (table : List ℕ) → ((rest : List ℕ) → drop i (pairs_of rest) ≡ pairs_of (drop (4 * i) rest)) → drop (suc i) (pairs_of table) ≡ pairs_of (drop (suc (suc (suc (suc (4 * i))))) table)
    by [] more = refl
    by (a ∷ []) more = refl
    by (a ∷ b ∷ []) more = refl
    by (a ∷ b ∷ c ∷ []) more = refl
    by (a ∷ b ∷ c ∷ d ∷ rest) more = more rest

pairs_cons : (table : List ℕ) → 4 ≤ length table → pairs_of table ≡ (word_at table 0, word_at table 2) ∷ pairs_of (drop 4 table)
unfolding pairs_of
pairs_cons [] h = absurd (omega arith)
pairs_cons (a ∷ []) h = absurd (omega arith)
pairs_cons (a ∷ b ∷ []) h = absurd (omega arith)
pairs_cons (a ∷ b ∷ c ∷ []) h = absurd (omega arith)
pairs_cons (a ∷ b ∷ c ∷ d ∷ rest) h = refl

module _ (bytes : List ℕ) (whole : head_length (count_in bytes) ≤ length bytes) where
  abbrev pub table : List ℕ
  table = take (4 * count_in bytes) (drop 6 bytes)

  pub table_length : length table ≡ 4 * count_in bytes
  unfolding head_length
  table_length = simp (length-take, length-drop) (omega (arith, whole))

  pub pairs_length : length (pairs_in bytes) ≡ count_in bytes
  unfolding pairs_in
  pairs_length = rw (length_pairs, table_length) (omega arith)

  pub records-length : length (records_in bytes) ≡ count_in bytes
  unfolding records_in
  records-length = rw length-map pairs_length

  module _ (i : ℕ) (more : i < count_in bytes) where
    byte_at : (k : ℕ) → k < 4 → get_or (drop (4 * i) table) k 0 ≡ get_or bytes (6 + (4 * i + k)) 0
    byte_at k h = get_or-drop (4 * i) table k 0 ∙ get_or-take (4 * count_in bytes) (drop 6 bytes) (4 * i + k) 0 (omega arith) ∙ get_or-drop 6 bytes (4 * i + k) 0

    word_at_lem : (k : ℕ) → k + 1 < 4 → word_at (drop (4 * i) table) k ≡ word_at bytes (6 + 4 * i + k)
    word_at_lem k h =
        rw (byte_at k (omega arith), byte_at (k + 1) (omega arith))
        (ap₂ (λ (m n : ℕ). get_or bytes m 0 + 256 * get_or bytes n 0) (omega arith) (omega arith))

    -- the pair at an index, and those behind it
    pub pair_here : drop i (pairs_in bytes) ≡ (word_at bytes (6 + 4 * i), word_at bytes (6 + 4 * i + 2)) ∷ drop (i + 1) (pairs_in bytes)
    unfolding pairs_in
    pair_here =
        let start : 6 + 4 * i + 0 ≡ 6 + 4 * i = omega arith in
        let next : 4 * i + 4 ≡ 4 * (i + 1) = omega arith in
        pairs_drop i table
        ∙ pairs_cons (drop (4 * i) table) (simp length-drop (omega (arith, table_length)))
        ∙ ap₂ (λ (p : ℕ × ℕ) (ps : List (ℕ × ℕ)). p ∷ ps)
        (ap₂ (λ (m n : ℕ). (m, n)) (word_at_lem 0 (omega arith) ∙ ap (word_at bytes) start) (word_at_lem 2 (omega arith)))
        (ap pairs_of (drop-drop 4 (4 * i) table ∙ ap (λ (n : ℕ). drop n table) next) ∙ sym (pairs_drop (i + 1) table))

    module _ (at end : ℕ) where
      pub exact_here : word_at bytes (6 + 4 * i) ≡ at → exact at (drop i (pairs_in bytes)) end ≡ exact (at + word_at bytes (6 + 4 * i + 2)) (drop (i + 1) (pairs_in bytes)) end
      unfolding exact
      exact_here e = rw (pair_here, eq-eqb (word_at bytes (6 + 4 * i)) at e)

      pub not-exact_here : (word_at bytes (6 + 4 * i) ≡ at → ⊥) → exact at (drop i (pairs_in bytes)) end ≡ false
      unfolding exact
      not-exact_here n = rw (pair_here, ne_eqb (word_at bytes (6 + 4 * i)) at n)

-- the pairs up to i are exact, and the next record is to start at `at`
pub record Exact (bytes : List ℕ) (count at i : ℕ) : Type 0 where
  pub counted : count ≡ count_in bytes
  pub small : count < 256
  pub whole : 6 + 4 * count ≤ length bytes
  pub upto : i ≤ count
  pub near : at ≤ 1026 + 65535 * i
  pub left : exact (head_length (count_in bytes)) (pairs_in bytes) (length bytes) ≡ exact at (drop i (pairs_in bytes)) (length bytes)

pub exact-start : (bytes : List ℕ) (count : ℕ) → count ≡ count_in bytes → count < 256 → 6 + 4 * count ≤ length bytes → Exact bytes count (6 + 4 * count) 0
unfolding head_length
exact-start bytes count e small h =
    record { counted = e; small = small; whole = h; upto = omega arith; near = omega arith; left = rw e }

module _ (bytes : List ℕ) (count at i : ℕ) (x : Exact bytes count at i) where
  fits : head_length (count_in bytes) ≤ length bytes
  unfolding head_length
  fits = omega (arith, x.counted, x.whole)

  inside : i < count → i < count_in bytes
  inside h = omega (arith, x.counted)

  table_whole : table_exact bytes ≡ exact (head_length (count_in bytes)) (pairs_in bytes) (length bytes)
  unfolding table_exact
  table_whole = rw (le-leb (head_length (count_in bytes)) (length bytes) fits)

  pub exact_next : i < count → word_at bytes (6 + 4 * i) ≡ at → word_at bytes (6 + 4 * i + 2) < 65536 → Exact bytes count (at + word_at bytes (6 + 4 * i + 2)) (i + 1)
  exact_next h e small = record {
    counted = x.counted;
    small = x.small;
    whole = x.whole;
    upto = omega arith;
    near = omega (arith, x.near);
    left = x.left ∙ exact_here bytes fits i (inside h) at (length bytes) e;
  }

  pub not-exact : i < count → (word_at bytes (6 + 4 * i) ≡ at → ⊥) → table_exact bytes ≡ false
  not-exact h n = table_whole ∙ x.left ∙ not-exact_here bytes fits i (inside h) at (length bytes) n

  pub exact_end : count ≤ i → table_exact bytes ≡ eqb at (length bytes)
  unfolding exact
  exact_end h = table_whole ∙ x.left ∙ rw (drop_of_length-le (pairs_in bytes) {i = i} (omega (arith, pairs_length bytes fits, x.counted)))
