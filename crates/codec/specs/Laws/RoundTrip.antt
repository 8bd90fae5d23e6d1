-- An image and its log: an accepted image written again is the same bytes, and what is written reads back.
use Rattle.std.specs.Prelude.{ℕ, ◌+◌, ◌*◌, ◌≤◌, ◌<◌, ◌≡◌, true, false, not, ◌||◌, leb, ltb, get_or, take, drop}
use Rattle.std.proofs.Math.Path.{refl, ap}
use Rattle.std.proofs.Common.{sym, ◌∙◌, length-append, take-append-drop, drop_at, drop-drop, drop-cons, take_at, get_or-drop, length-take-le, arith}
use Rattle.std.proofs.Math.Bool.{and-eq-true_iff}
use mathlib.Core.List.{List, [], ◌∷◌, ◌++◌, map, flatten, append_assoc}
use Rattle.std.proofs.Math.ListN.{length}
use Rattle.std.proofs.lemmas.List.{length-map}
use Rattle.std.proofs.Math.Seq.{take-append_seam}
use borrow.Author.Tests.{leb-true, ltb-false, not-false, le-leb, le-ltb}
use Rattle.codec.specs.Laws.Tests.{or_none, same_list}
use Rattle.codec.specs.Lists.{same, first}
use Rattle.codec.specs.Records.{LogRecord, bytes_of, record_of, record_refusals}
use Rattle.codec.specs.Image.{magic, head_length, pair_table, image, pairs_of, site_in, count_in, pairs_in, records_in, over_limit, exact, table_exact, head_refusals, accepted, reading_number, records_unless, read_records, read_unless, read_image, log_refusals, stored, write_image, copy_reading, copy_image}
use Rattle.codec.specs.Laws.Pairs.{table_length, records-length}
use Rattle.codec.specs.Laws.Readings.{unrefused, accepted_by_zero}
use Rattle.codec.specs.Laws.Refusals.{passed, records_bytes, log-records, write_whole, write_passed}
use Rattle.codec.specs.Laws.Tables.{bytes_take, length_table, exact-records, exact_table, named_table, table_exact_lem}

-- ---- accepted images

-- what the tests of an accepted image have told, and what is read of it
record Accepted (bytes : List ℕ) (s : ℕ) (log : List LogRecord) : Type 0 where
  long : 6 ≤ length bytes
  opening : take 4 bytes ≡ magic
  limits : over_limit (site_in bytes) (count_in bytes) ≡ false
  fits : head_length (count_in bytes) ≤ length bytes
  placed : exact (head_length (count_in bytes)) (pairs_in bytes) (length bytes) ≡ true
  whole : first (record_refusals (site_in bytes) [] (records_in bytes)) ≡ 0
  site : site_in bytes ≡ s
  records : map record_of (records_in bytes) ≡ log

acceptance : (bytes : List ℕ) (s : ℕ) (log : List LogRecord) → read_image bytes ≡ accepted s log → Accepted bytes s log
unfolding head_refusals first table_exact reading_number
acceptance bytes s log e =
    let none = unrefused bytes (ap reading_number e) in
    let read : accepted (site_in bytes) (map record_of (records_in bytes)) ≡ accepted s log = sym (accepted_by_zero bytes (ap reading_number e)) ∙ e in
    let opened = passed 19 (ltb (length bytes) 6 || not (same (take 4 bytes) magic)) _ none.0 in
    let limited = passed 20 (over_limit (site_in bytes) (count_in bytes)) _ opened.1 in
    let tabled = passed 21 (not (table_exact bytes)) _ limited.1 in
    let starts = or_none (ltb (length bytes) 6) (not (same (take 4 bytes) magic)) opened.0 in
    let table = (and-eq-true_iff (leb (head_length (count_in bytes)) (length bytes)) _).0 (not-false (table_exact bytes) tabled.0) in
    record {
      long = ltb-false (length bytes) 6 starts.0;
      opening = same_list (take 4 bytes) magic (not-false (same (take 4 bytes) magic) starts.1);
      limits = limited.0;
      fits = leb-true (head_length (count_in bytes)) (length bytes) table.0;
      placed = table.1;
      whole = none.1;
      site = cc;
      records = cc;
    }

module _ (bytes : List ℕ) (s : ℕ) (log : List LogRecord) (a : Accepted bytes s log) where
  records-written : map bytes_of log ≡ records_in bytes
  records-written = rw (← a.records) (records_bytes (site_in bytes) [] (records_in bytes) a.whole)

  log-length : length log ≡ count_in bytes
  log-length = rw (← a.records, length-map) (records-length bytes a.fits)

-- the parts of an image, joined again
joined : (bytes : List ℕ) (n : ℕ) → 6 ≤ length bytes
    → take 4 bytes ++ site_in bytes ∷ count_in bytes ∷ take (4 * n) (drop 6 bytes) ++ drop (head_length n) bytes ≡ bytes
unfolding site_in count_in head_length
joined bytes n h =
    rw (append_assoc, ← drop-drop (4 * n) 6 bytes, take-append-drop (4 * n) (drop 6 bytes), ← drop-cons bytes 5 0 (omega arith), ← drop-cons bytes 4 0 (omega arith))
    (take-append-drop 4 bytes)

-- ---- written images

abbrev table_of : List LogRecord → List ℕ
table_of log = pair_table (head_length (length log)) (map bytes_of log)

-- an image without its records
abbrev head : ℕ → List LogRecord → List ℕ
head s log = magic ++ s ∷ length log ∷ table_of log

module _ (s : ℕ) (log : List LogRecord) where
  opening_in : same (take 4 (image s log)) magic ≡ true
  unfolding same image magic
  opening_in = refl

  site_in_lem : site_in (image s log) ≡ s
  unfolding site_in image magic
  site_in_lem = refl

  count_in_lem : count_in (image s log) ≡ length log
  unfolding count_in image magic
  count_in_lem = refl

  head_length_lem : length (head s log) ≡ head_length (length log)
  unfolding magic head_length
  head_length_lem = simp (length_table, length-map) (omega arith)

  pub image-length : length (image s log) ≡ head_length (length log) + length (flatten (map bytes_of log))
  unfolding image
  image-length = rw (length-append, head_length_lem)

  fits_in : head_length (length log) ≤ length (image s log)
  fits_in = rw image-length (omega arith)

  long_in : ltb (length (image s log)) 6 ≡ false
  unfolding head_length
  long_in = le-ltb (length (image s log)) 6 (omega (arith, fits_in))

  pairs_in_lem : pairs_in (image s log) ≡ pairs_of (table_of log)
  unfolding pairs_in count_in image magic
  pairs_in_lem = ap pairs_of (take_at (table_of log) (flatten (map bytes_of log)) (4 * length log) (rw (length_table, length-map)))

  table_in : table_exact (image s log) ≡ true
  unfolding table_exact
  table_in =
      rw (count_in_lem, pairs_in_lem, le-leb (head_length (length log)) (length (image s log)) fits_in, image-length)
      (table_exact_lem (head_length (length log)) (map bytes_of log))

  records_in_lem : records_in (image s log) ≡ map bytes_of log
  unfolding records_in image
  records_in_lem = rw pairs_in_lem (named_table (head s log) (head_length (length log)) (map bytes_of log) head_length_lem)

  none_refuses : first (log_refusals s log) ≡ 0 → first (head_refusals (image s log)) ≡ 0
  unfolding head_refusals log_refusals first
  none_refuses e = rw (long_in, opening_in, site_in_lem, count_in_lem, table_in, (passed 20 (over_limit s (length log)) _ e).0)

  records_pass : first (log_refusals s log) ≡ 0 → first (record_refusals (site_in (image s log)) [] (records_in (image s log))) ≡ 0
  unfolding log_refusals first
  records_pass e = rw (site_in_lem, records_in_lem) (passed 20 (over_limit s (length log)) _ e).1

-- ---- the call of the writer

stored_there : (at : ℕ) (bytes buffer : List ℕ) → at + length bytes ≤ length buffer → take (length bytes) (drop at (stored at bytes buffer)) ≡ bytes
unfolding stored
stored_there at bytes buffer h =
    let start : length (take at buffer) ≡ at = length-take-le at buffer (omega arith) in
    rw (append_assoc, drop_at, take-append_seam)

-- ---- the round trips

-- An accepted image is the image of its log.
pub same_bytes : (bytes : List ℕ) → ((i : ℕ) → get_or bytes i 0 < 256) → (s : ℕ) (log : List LogRecord) → read_image bytes ≡ accepted s log → image s log ≡ bytes
unfolding image records_in pairs_in
same_bytes bytes small s log e =
    let a = acceptance bytes s log e in
    let n = count_in bytes in
    let table = take (4 * n) (drop 6 bytes) in
    let table-bytes = bytes_take (4 * n) (drop 6 bytes) (λ i. rw get_or-drop (small (6 + i))) in
    let length-4 = table_length bytes a.fits in
    let same-table = exact_table bytes (head_length n) table table-bytes (omega arith) a.placed in
    let rest = exact-records bytes (head_length n) (pairs_of table) a.placed in
    rw (records-written bytes s log a, log-length bytes s log a, same-table, rest, ← a.site, ← a.opening) (joined bytes n a.long)

-- Each log that the reader gives is written without a refusal, where there is room.
pub readable_writable : (bytes : List ℕ) (s : ℕ) (log : List LogRecord) → read_image bytes ≡ accepted s log → first (log_refusals s log) ≡ 0
unfolding log_refusals first
readable_writable bytes s log e =
    let a = acceptance bytes s log e in
    rw (records-written bytes s log a, log-length bytes s log a, ← a.site, a.limits) a.whole

-- What is written is accepted, and reads back as the same log.
pub reads_back : (s : ℕ) (log : List LogRecord) → first (log_refusals s log) ≡ 0 → read_image (image s log) ≡ accepted s log
unfolding read_image read_unless read_records records_unless
reads_back s log e = rw (none_refuses s log e, records_pass s log e, site_in_lem s log, records_in_lem s log, log-records log)

-- An accepted image that is read and written again leaves its bytes in the buffer.
pub written_again : (bytes : List ℕ) → ((i : ℕ) → get_or bytes i 0 < 256) → (s : ℕ) (log : List LogRecord) → read_image bytes ≡ accepted s log
    → (at : ℕ) (buffer : List ℕ) → at + length bytes ≤ length buffer → write_image s log at buffer ≡ record { answer = 0; buffer = stored at bytes buffer }
written_again bytes small s log e at buffer h =
    let same-image = same_bytes bytes small s log e in
    sym (write_whole s log at buffer (readable_writable bytes s log e) (rw same-image h)) ∙ rw same-image

-- What a call writes is accepted where it stands in the buffer, and reads back as the same log.
pub written_reads : (s : ℕ) (log : List LogRecord) (at : ℕ) (buffer : List ℕ) → (write_image s log at buffer).answer ≡ 0
    → read_image (take (length (image s log)) (drop at (write_image s log at buffer).buffer)) ≡ accepted s log
written_reads s log at buffer e =
    let passed = write_passed s log at buffer e in
    rw (← write_whole s log at buffer passed.0 passed.1, stored_there at (image s log) buffer passed.1) (reads_back s log passed.0)

-- A copy of an accepted image is that image.
pub copied : (bytes : List ℕ) → ((i : ℕ) → get_or bytes i 0 < 256) → (s : ℕ) (log : List LogRecord) → read_image bytes ≡ accepted s log
    → (at : ℕ) (buffer : List ℕ) → at + length bytes ≤ length buffer → copy_image bytes at buffer ≡ record { answer = 0; buffer = stored at bytes buffer }
unfolding copy_image copy_reading
copied bytes small s log e at buffer h = rw e (written_again bytes small s log e at buffer h)
