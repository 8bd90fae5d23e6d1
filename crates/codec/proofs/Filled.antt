-- The reader's loop: the records of an image, one after the other. Assumes nothing.
use mathlib.Core.Path.{◌≡◌, refl, ap, sym, ◌∙◌}
use mathlib.Core.Bool.{true, and-eq-true_iff}
use mathlib.Core.List.{List, [], map}
use Prim.Native.Nat.{ℕ, zero, suc, ◌+◌, ◌*◌, ◌<◌, ◌≤◌}
use native.Mathlib.Numerals.{add-one}
use native.Mathlib.Omega.{arith}
use borrow.Author.Tests.{leb-true, not-false}
use lib.Dec.{leb}
use lib.ListN.{length, get_or, set, take, drop, replicate, length-set, length-map}
use lib.Seq.{get_or-drop, take-suc-set, take_all}
use Rattle.codec.specs.Lists.{first}
use Rattle.codec.specs.Records.{record_of, kind_and_length, record_refusals, first_bad}
use Rattle.codec.specs.Image.{head_length, site_in, count_in, pairs_in, records_in, exact, table_exact, refused, records_unless, read_records}
use Rattle.std.specs.Prelude.{Result, Ok, Err}
use Rattle.std.proofs.lemmas.List.{take-map}
use Rattle.codec.specs.Answers.{record_in, no_record, refusal_number, values}
use Rattle.codec.specs.Inside.{word_at, Within, record_from, answer_on, Readable}
use Rattle.codec.specs.declared.record.Record.{Record}
use Rattle.codec.specs.declared.refusal.Refusal.{Refusal}
use Rattle.codec.specs.Laws.Fields.{from_bytes}
use Rattle.codec.specs.Laws.Tables.{named, exact_cons, exact_end}
use Rattle.codec.specs.Laws.Pairs.{pairs_length, records-length, pair_here}
use Rattle.codec.proofs.Lists.{getD_map-below, map-set}
use Rattle.codec.proofs.Passed.{Passed, passed_none, passed_next, passed_all, stopped, taken, done_next, refusal_not_zero}

pub readable_whole : (bytes : List ℕ) → Readable bytes → head_length (count_in bytes) ≤ length bytes
unfolding table_exact
readable_whole bytes r = leb-true _ _ ((and-eq-true_iff (leb (head_length (count_in bytes)) (length bytes)) _).0 r.exact).0

pub readable_exact : (bytes : List ℕ) → Readable bytes → exact (head_length (count_in bytes)) (pairs_in bytes) (length bytes) ≡ true
unfolding table_exact
readable_exact bytes r = ((and-eq-true_iff (leb (head_length (count_in bytes)) (length bytes)) _).0 r.exact).1

-- the answer on the bytes from `at` on
abbrev pub answer_at : List ℕ → List Record → ℕ → ℕ → Result Record Refusal
answer_at bytes newest at size =
    let part = take size (drop at bytes) in
    answer_on (site_in bytes) part (record_in (get_or newest (record_from part).transaction no_record)) (record_from part)

-- the first i records have passed and stand in the log, and the next one starts at `at`
pub record Filled (bytes : List ℕ) (records newest : List Record) (at i : ℕ) : Type 0 where
  pub size : length records ≡ 24
  pub passed : Passed (site_in bytes) (records_in bytes) newest i
  pub place : exact at (drop i (pairs_in bytes)) (length bytes) ≡ true
  pub same : take i (map record_in records) ≡ take i (map record_of (records_in bytes))

pub filled_none : (bytes : List ℕ) → Readable bytes → Filled bytes (replicate 24 no_record) (replicate 8 no_record) (head_length (count_in bytes)) 0
filled_none bytes r = record { size = refl; passed = passed_none _ _; place = readable_exact bytes r; same = refl }

module _ (bytes : List ℕ) (readable : Readable bytes) (records newest : List Record) (at i : ℕ) (f : Filled bytes records newest at i) (more : i < count_in bytes) where
  whole : head_length (count_in bytes) ≤ length bytes
  whole = readable_whole bytes readable

  -- the length that the pair gives
  abbrev size : ℕ
  size = word_at bytes (6 + 4 * i + 2)

  abbrev part : List ℕ
  part = take size (drop at bytes)

  here : (word_at bytes (6 + 4 * i) ≡ at) × (exact (at + size) (drop (i + 1) (pairs_in bytes)) (length bytes) ≡ true)
  here =
      exact_cons at (word_at bytes (6 + 4 * i), size) (drop (i + 1) (pairs_in bytes)) (length bytes)
      (rw (pair_here bytes whole i more) at f.place)

  pub part_inside : at + size ≤ length bytes
  part_inside = exact_end (at + size) (drop (i + 1) (pairs_in bytes)) (length bytes) here.1

  pub within : Within bytes at i
  unfolding head_length
  within = record { pair = omega (arith, whole); part = part_inside }

  there : i < length (records_in bytes)
  there = rw (records-length bytes whole) more

  pair_is : get_or (pairs_in bytes) i (0, 0) ≡ (at, size)
  pair_is =
      let start : i + 0 ≡ i = omega arith in
      rw start at (sym (get_or-drop i (pairs_in bytes) 0 (0, 0)))
      ∙ ap (λ (ps : List (ℕ × ℕ)). get_or ps 0 (0, 0)) (pair_here bytes whole i more) ∙ ap (λ (n : ℕ). (n, size)) here.0

  here_is : get_or (records_in bytes) i [] ≡ part
  unfolding records_in
  here_is = getD_map-below (named bytes) (pairs_in bytes) i (0, 0) [] (rw (pairs_length bytes whole) more) ∙ ap (named bytes) pair_is

  abbrev x : Record
  x = record_from part

  abbrev answer : Result Record Refusal
  answer = answer_at bytes newest at size

  read_is : kind_and_length (site_in bytes) (get_or (records_in bytes) i []) ≡ true → record_in x ≡ record_of (get_or (records_in bytes) i [])
  read_is = rw here_is (from_bytes (site_in bytes) part)

  pub image-stopped : (e : Refusal) → answer ≡ Err e
      → (refusal_number e ≡ first (record_refusals (site_in bytes) [] (records_in bytes))) × (first_bad (site_in bytes) [] (records_in bytes) ≡ i)
  image-stopped = rw here_is at (stopped (site_in bytes) (records_in bytes) newest i f.passed there x read_is)

  pub filled_next : (r : Record) → answer ≡ Ok r → Filled bytes (set records i r) (set newest r.transaction r) (at + size) (i + 1)
  filled_next r e =
      let t = taken _ _ _ _ x r e in
      let next = rw here_is at (passed_next (site_in bytes) (records_in bytes) newest i f.passed there x read_is) in
      let now : record_in r ≡ record_of (get_or (records_in bytes) i []) = ap record_in (sym t.1) ∙ rw here_is (from_bytes (site_in bytes) part (not-false _ t.0)) in
      record {
        size = rw length-set f.size;
        passed = next r e;
        place = here.1;
        same =
            rw (map-set, add-one, take-suc-set (map record_in records) i (record_in r) (rw length-map (omega (arith, f.size, readable.few))), f.same, now)
            (sym (rw add-one at (done_next (site_in bytes) (records_in bytes) newest i f.passed there x read_is)));
      }

-- ---- the answer

-- records that are refused are read up to the first bad one
pub records-refused : (bytes : List ℕ) (e : Refusal) (i : ℕ) → refusal_number e ≡ first (record_refusals (site_in bytes) [] (records_in bytes))
    → first_bad (site_in bytes) [] (records_in bytes) ≡ i → refused (refusal_number e) i ≡ read_records bytes
unfolding read_records records_unless
records-refused bytes e i is bad = rw (← is) (by (refusal_number e) (refusal_not_zero e))
  where
    by : (n : ℕ) → (n ≡ 0 → ⊥) → refused n i ≡ records_unless n bytes
    by zero h = absurd (h refl)
    by (suc n) h = rw bad

pub filled_all : (bytes : List ℕ) → Readable bytes → (records newest : List Record) (at i : ℕ) → Filled bytes records newest at i → count_in bytes ≤ i
    → record { answer = 0; index = count_in bytes; site = site_in bytes; count = count_in bytes; log = map record_in (take (count_in bytes) records) } ≡ values (read_records bytes)
unfolding read_records records_unless values
filled_all bytes readable records newest at i f h =
    let whole = readable_whole bytes readable in
    let size : length (records_in bytes) ≡ count_in bytes = records-length bytes whole in
    let end : i ≡ count_in bytes = omega (arith, f.passed.upto) in
    let all : map record_in (take (count_in bytes) records) ≡ map record_of (records_in bytes) =
    rw (take-map record_in) at (rw end at f.same) ∙ take_all (count_in bytes) (map record_of (records_in bytes)) (rw (length-map, size) (omega arith)) in
    rw (passed_all (site_in bytes) (records_in bytes) newest i (rw size h) f.passed, all, length-map, size)
