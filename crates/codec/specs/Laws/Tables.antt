-- The pair table of an image: its bytes, its pairs, and the records that they name.
use mathlib.Core.Path.{subst}
use Rattle.std.specs.Prelude.{ℕ, zero, suc, ◌+◌, ◌*◌, ◌/◌, ◌%◌, ◌≤◌, ◌<◌, ◌≡◌, refl, true, eqb, length, get_or, take, drop}
use Rattle.std.proofs.Common.{ap₂, length-append, length-drop, take-append-drop, drop_at, drop-drop, length-take-le, add_assoc, arith, eqb-true, eq-eqb}
use Rattle.std.proofs.Math.Bool.{and-eq-true_iff}
use mathlib.Core.List.{List, [], ◌∷◌, ◌++◌, map, flatten, append_assoc}
use Rattle.std.proofs.Math.Seq.{take-append_seam, drop-length}
use Rattle.codec.specs.Image.{word, pair_table, pairs_of, exact}

-- ---- bytes and words

abbrev pub Bytes : List ℕ → Type 0
Bytes l = (i : ℕ) → get_or l i 0 < 256

pub bytes_take : (n : ℕ) (l : List ℕ) → Bytes l → Bytes (take n l)
bytes_take zero l h i = omega arith
bytes_take (suc n) [] h i = omega arith
bytes_take (suc n) (x ∷ l) h zero = h 0
bytes_take (suc n) (x ∷ l) h (suc i) = bytes_take n l (λ k. h (suc k)) i

number_word : (a b : ℕ) → a < 256 → word (a + 256 * b) ≡ a ∷ b ∷ []
unfolding word
number_word a b h = ap₂ (λ (x y : ℕ). x ∷ y ∷ []) (omega arith) (omega arith)

word_number : (n : ℕ) → n % 256 + 256 * (n / 256) ≡ n
word_number n = omega arith

-- ---- lengths

pub length_pairs : (table : List ℕ) → length (pairs_of table) ≡ length table / 4
unfolding pairs_of
length_pairs [] = refl
length_pairs (a ∷ []) = refl
length_pairs (a ∷ b ∷ []) = refl
length_pairs (a ∷ b ∷ c ∷ []) = refl
length_pairs (a ∷ b ∷ c ∷ d ∷ table) = let rest = length_pairs table in omega arith

pub length_table : (at : ℕ) (records : List (List ℕ)) → length (pair_table at records) ≡ 4 * length records
unfolding pair_table word
length_table at [] = refl
length_table at (r ∷ records) = let rest = length_table (at + length r) records in omega arith

-- ---- an exact table is that of the records that it names

-- the bytes that a pair names
abbrev pub named : List ℕ → ℕ × ℕ → List ℕ
named bytes p = take p.1 (drop p.0 bytes)

pub exact_cons : (at : ℕ) (p : ℕ × ℕ) (pairs : List (ℕ × ℕ)) (end : ℕ) → exact at (p ∷ pairs) end ≡ true
    → (p.0 ≡ at) × (exact (at + p.1) pairs end ≡ true)
unfolding exact
exact_cons at p pairs end e =
    let both = (and-eq-true_iff (eqb p.0 at) (exact (at + p.1) pairs end)).0 e in
    (eqb-true p.0 at both.0, both.1)

pub exact_end : (at : ℕ) (pairs : List (ℕ × ℕ)) (end : ℕ) → exact at pairs end ≡ true → at ≤ end
unfolding exact
exact_end at [] end e = omega (arith, eqb-true at end e)
exact_end at (p ∷ pairs) end e =
    let rest = exact_end (at + p.1) pairs end (exact_cons at p pairs end e).1 in
    omega arith

-- the records are the bytes from the first one on
pub exact-records : (bytes : List ℕ) (at : ℕ) (pairs : List (ℕ × ℕ)) → exact at pairs (length bytes) ≡ true → flatten (map (named bytes) pairs) ≡ drop at bytes
unfolding exact flatten
exact-records bytes at [] e = rw (eqb-true at (length bytes) e, drop-length)
exact-records bytes at (p ∷ pairs) e =
    let both = exact_cons at p pairs (length bytes) e in
    rw (exact-records bytes (at + p.1) pairs both.1, both.0, ← drop-drop p.1 at bytes, take-append-drop)

pub exact_table : (bytes : List ℕ) (at : ℕ) (table : List ℕ) → Bytes table → length table % 4 ≡ 0 → exact at (pairs_of table) (length bytes) ≡ true
    → pair_table at (map (named bytes) (pairs_of table)) ≡ table
unfolding pairs_of pair_table
exact_table bytes at [] small whole e = refl
exact_table bytes at (a ∷ []) small whole e = absurd (omega arith)
exact_table bytes at (a ∷ b ∷ []) small whole e = absurd (omega arith)
exact_table bytes at (a ∷ b ∷ c ∷ []) small whole e = absurd (omega arith)
exact_table bytes at (a ∷ b ∷ c ∷ d ∷ table) small whole e =
    let p : ℕ × ℕ = (a + 256 * b, c + 256 * d) in
    let both = exact_cons at p (pairs_of table) (length bytes) e in
    let end = exact_end (at + p.1) (pairs_of table) (length bytes) both.1 in
    let size : length (named bytes p) ≡ p.1 = length-take-le p.1 (drop p.0 bytes) (simp length-drop (omega arith)) in
    let rest = exact_table bytes (at + p.1) table (λ i. small (suc (suc (suc (suc i))))) (omega arith) both.1 in
    rw (size, rest, ← both.0, number_word a b (small 0), number_word c d (small 2))

-- ---- the table of records is exact, and names them

pub named_table : (head : List ℕ) (at : ℕ) (records : List (List ℕ)) → length head ≡ at
    → map (named (head ++ flatten records)) (pairs_of (pair_table at records)) ≡ records
unfolding pairs_of pair_table flatten word
named_table head at [] e = refl
named_table head at (r ∷ records) e =
    ap₂ ◌∷◌ (rw (word_number at, word_number (length r), drop_at, take-append_seam))
    (subst (λ (l : List ℕ). map (named l) (pairs_of (pair_table (at + length r) records)) ≡ records) (append_assoc head r (flatten records)) (named_table (head ++ r) (at + length r) records (rw (length-append, e))))

pub table_exact_lem : (at : ℕ) (records : List (List ℕ)) → exact at (pairs_of (pair_table at records)) (at + length (flatten records)) ≡ true
unfolding exact pairs_of pair_table flatten word
table_exact_lem at [] = eq-eqb at (at + 0) (omega arith)
table_exact_lem at (r ∷ records) =
    rw (word_number at, word_number (length r), eq-eqb at at refl, length-append, ← add_assoc) (table_exact_lem (at + length r) records)
