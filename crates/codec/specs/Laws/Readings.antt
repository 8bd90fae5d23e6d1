-- A reading's number and index: they are those of the first bad record. Assumes nothing.
use Prim.Native.Nat.{ℕ, zero, suc, ◌<◌}
use Rattle.std.specs.Prelude.{◌≡◌, Bool, length, get_or, take}
use Rattle.std.proofs.Math.Path.{refl}
use Rattle.std.proofs.Common.{ap, sym}
use mathlib.Core.List.{List, [], ◌∷◌, ◌++◌, map, append_assoc, append-nil}
use native.Mathlib.Omega.{arith}
use Rattle.codec.specs.Lists.{first}
use Rattle.codec.specs.Records.{LogRecord, record_of, record_tests, record_refusals, further_unless, first_bad}
use Rattle.codec.specs.Image.{site_in, records_in, head_refusals, Reading, accepted, refused, reading_number, reading_index, records_unless, read_records, read_unless, read_image}
use Rattle.codec.specs.Answers.{values}
use Rattle.codec.specs.Laws.Refusals.{or_else, tests_or, record_passed}

pub values-number : (v : Reading) → (values v).answer ≡ reading_number v
unfolding values reading_number
values-number (accepted s log) = refl
values-number (refused n i) = refl

pub values-index : (v : Reading) → (values v).index ≡ reading_index v
unfolding values reading_index
values-index (accepted s log) = refl
values-index (refused n i) = refl

-- no refusal strikes an image whose number is 0
pub unrefused : (bytes : List ℕ) → reading_number (read_image bytes) ≡ 0
    → (first (head_refusals bytes) ≡ 0) × (first (record_refusals (site_in bytes) [] (records_in bytes)) ≡ 0)
unfolding read_image read_unless read_records records_unless reading_number
unrefused bytes = head (first (head_refusals bytes))
  where
    records : (n : ℕ) → reading_number (records_unless n bytes) ≡ 0 → n ≡ 0
    records zero e = refl
    records (suc n) e = absurd (omega arith)

    head : (n : ℕ) → reading_number (read_unless n bytes) ≡ 0 → (n ≡ 0) × (first (record_refusals (site_in bytes) [] (records_in bytes)) ≡ 0)
    head zero e = (refl, records (first (record_refusals (site_in bytes) [] (records_in bytes))) e)
    head (suc n) e = absurd (omega arith)

-- it is accepted
pub accepted_by_zero : (bytes : List ℕ) → reading_number (read_image bytes) ≡ 0 → read_image bytes ≡ accepted (site_in bytes) (map record_of (records_in bytes))
unfolding read_image read_unless read_records records_unless
accepted_by_zero bytes e = let none = unrefused bytes e in rw (none.0, none.1)

-- ---- the first bad record

module _ (s : ℕ) where
  -- where none is bad, its index is how many records there are
  pub none_bad : (before : List LogRecord) (records : List (List ℕ)) → first (record_refusals s before records) ≡ 0 → first_bad s before records ≡ length records
  unfolding record_refusals first_bad further_unless
  none_bad before [] e = refl
  none_bad before (bytes ∷ rest) e =
      let one = record_passed s before bytes (record_refusals s (before ++ (record_of bytes ∷ [])) rest) e in
      rw one.0 (ap suc (none_bad (before ++ (record_of bytes ∷ [])) rest one.1))

  -- the tests on record i, behind those before it
  abbrev tests_at : List LogRecord → List (List ℕ) → ℕ → List (ℕ × Bool)
  tests_at before records i = record_tests s (before ++ map record_of (take i records)) (get_or records i [])

  -- the number that refuses some records is that of the first bad one, which is one of them
  pub bad_number : (before : List LogRecord) (records : List (List ℕ)) → (first (record_refusals s before records) ≡ 0 → ⊥)
      → (first_bad s before records < length records) × (first (record_refusals s before records) ≡ first (tests_at before records (first_bad s before records)))
  unfolding record_refusals first_bad further_unless
  bad_number before [] h = absurd (h (unfold first in refl))
  bad_number before (bytes ∷ rest) h =
      rw (tests_or s before bytes (record_refusals s next rest))
      (by (first (record_tests s before bytes)) refl (bad_number next rest) (rw (tests_or s before bytes (record_refusals s next rest)) at h))
    where
      next : List LogRecord
      next = before ++ (record_of bytes ∷ [])

      by : (n : ℕ) → first (record_tests s before bytes) ≡ n
          → ((first (record_refusals s next rest) ≡ 0 → ⊥)
          → (first_bad s next rest < length rest) × (first (record_refusals s next rest) ≡ first (tests_at next rest (first_bad s next rest))))
          → (or_else n (first (record_refusals s next rest)) ≡ 0 → ⊥)
          → (further_unless n (first_bad s next rest) < suc (length rest))
          × (or_else n (first (record_refusals s next rest)) ≡ first (tests_at before (bytes ∷ rest) (further_unless n (first_bad s next rest))))
      by zero e later h = (omega (arith, (later h).0), rw append_assoc at (later h).1)
      by (suc n) e later h = (omega arith, sym (rw append-nil e))

  -- no test strikes a record before it
  pub good_before : (before : List LogRecord) (records : List (List ℕ)) (j : ℕ) → j < first_bad s before records → first (tests_at before records j) ≡ 0
  unfolding first_bad further_unless
  good_before before [] j h = absurd (omega arith)
  good_before before (bytes ∷ rest) zero h = rw append-nil (here (first (record_tests s before bytes)) (first_bad s (before ++ (record_of bytes ∷ [])) rest) h)
    where
      here : (n k : ℕ) → 0 < further_unless n k → n ≡ 0
      here zero k h = refl
      here (suc n) k h = absurd (omega arith)
  good_before before (bytes ∷ rest) (suc j) h =
      let next = before ++ (record_of bytes ∷ []) in
      rw append_assoc at (good_before next rest j (later (first (record_tests s before bytes)) (first_bad s next rest) h))
    where
      later : (n k : ℕ) → suc j < further_unless n k → j < k
      later zero k h = omega arith
      later (suc n) k h = absurd (omega arith)

-- So an image that passes 20 to 22 and is refused is refused by the record that its index names, and by none before it.
pub record FirstBad (bytes : List ℕ) (n i : ℕ) : Type 0 where
  pub one : i < length (records_in bytes)
  pub bad : n ≡ first (tests_at (site_in bytes) [] (records_in bytes) i)
  pub good : (j : ℕ) → j < i → first (tests_at (site_in bytes) [] (records_in bytes) j) ≡ 0

pub first_bad_lem : (bytes : List ℕ) (n i : ℕ) → first (head_refusals bytes) ≡ 0 → read_image bytes ≡ refused n i → FirstBad bytes n i
unfolding read_image read_unless read_records records_unless reading_number reading_index
first_bad_lem bytes n i h e = by (first (record_refusals (site_in bytes) [] (records_in bytes))) refl (rw h at e)
  where
    by : (m : ℕ) → first (record_refusals (site_in bytes) [] (records_in bytes)) ≡ m → records_unless m bytes ≡ refused n i → FirstBad bytes n i
    by zero f e = let z : ◌≡◌ {A = ℕ} 0 1 = cc in absurd (omega arith)
    by (suc m) f e =
        let index : first_bad (site_in bytes) [] (records_in bytes) ≡ i = ap reading_index e in
        let number : suc m ≡ n = ap reading_number e in
        let told = bad_number (site_in bytes) [] (records_in bytes) (λ z. omega (arith, f, z)) in
        record {
          one = rw (← index) told.0;
          bad = rw (← number, ← f, ← index) told.1;
          good = λ j l. good_before (site_in bytes) [] (records_in bytes) j (rw index l);
        }
