-- The log image of a site: its stable records as bytes, read, and written at an offset of a lent buffer.
use Rattle.std.specs.Prelude.{ℕ, zero, suc, ◌+◌, ◌*◌, ◌/◌, ◌%◌, Bool, not, ◌&&◌, ◌||◌, length, get_or, take, drop, eqb, leb, ltb}
use mathlib.Core.List.{List, [], ◌∷◌, ◌++◌, map, flatten}
use Rattle.codec.specs.Lists.{same, first}
use Rattle.codec.specs.Records.{LogRecord, bytes_of, record_of, record_refusals, first_bad}

-- ---- layout

-- the four bytes at the start (01: the opening)
unfoldable pub magic : List ℕ
magic = 0x44 ∷ 0x50 ∷ 0x52 ∷ 0x4C ∷ []

-- the opening, site, count, and a pair for each record
unfoldable pub head_length : ℕ → ℕ
head_length n = 6 + 4 * n

-- 16 bits, low byte first
unfoldable pub word : ℕ → List ℕ
word n = n % 256 ∷ n / 256 ∷ []

-- offset and length of each record, the first at `at`
unfoldable pub pair_table : ℕ → List (List ℕ) → List ℕ
pair_table at [] = []
pair_table at (bytes ∷ rest) = word at ++ word (length bytes) ++ pair_table (at + length bytes) rest

unfoldable pub image : ℕ → List LogRecord → List ℕ
image s log =
    let records = map bytes_of log in
    magic ++ s ∷ length log ∷ pair_table (head_length (length log)) records ++ flatten records

-- ---- reading

-- the pairs of offset and length that the bytes of a table hold
unfoldable pub pairs_of : List ℕ → List (ℕ × ℕ)
pairs_of [] = []
pairs_of (a ∷ []) = []
pairs_of (a ∷ b ∷ []) = []
pairs_of (a ∷ b ∷ c ∷ []) = []
pairs_of (a ∷ b ∷ c ∷ d ∷ rest) = (a + 256 * b, c + 256 * d) ∷ pairs_of rest

unfoldable pub site_in : List ℕ → ℕ
site_in bytes = get_or bytes 4 0

unfoldable pub count_in : List ℕ → ℕ
count_in bytes = get_or bytes 5 0

unfoldable pub pairs_in : List ℕ → List (ℕ × ℕ)
pairs_in bytes = pairs_of (take (4 * count_in bytes) (drop 6 bytes))

-- the bytes that each pair names
unfoldable pub records_in : List ℕ → List (List ℕ)
records_in bytes = map (λ p. take p.1 (drop p.0 bytes)) (pairs_in bytes)

-- the most records that an image of a site holds
unfoldable pub most : ℕ → ℕ
most zero = 24
most (suc n) = 16

-- 21: site above 8, count above the most
unfoldable pub over_limit : ℕ → ℕ → Bool
over_limit s n = ltb 8 s || ltb (most s) n

-- each record starts where the one before it ends, the first at `at`, and the last ends at `end`
unfoldable pub exact : ℕ → List (ℕ × ℕ) → ℕ → Bool
exact at [] end = eqb at end
exact at (p ∷ ps) end = eqb p.0 at && exact (at + p.1) ps end

-- 22: pair table short, not exact, or not ending at the end
unfoldable pub table_exact : List ℕ → Bool
table_exact bytes = leb (head_length (count_in bytes)) (length bytes) && exact (head_length (count_in bytes)) (pairs_in bytes) (length bytes)

-- 20 to 22 come before the records
unfoldable pub head_refusals : List ℕ → List (ℕ × Bool)
head_refusals bytes =
    (20, ltb (length bytes) 6 || not (same (take 4 bytes) magic))
    ∷ (21, over_limit (site_in bytes) (count_in bytes))
    ∷ (22, not (table_exact bytes))
    ∷ []

-- an image's site and records; or the number that refuses it, and the index of the first bad record
pub data Reading : Type 0 where
  accepted : ℕ → List LogRecord → Reading
  refused : ℕ → ℕ → Reading

-- its number: 0, or the refusal
unfoldable pub reading_number : Reading → ℕ
reading_number (accepted s log) = 0
reading_number (refused n i) = n

-- its index: on an accepted image the count
unfoldable pub reading_index : Reading → ℕ
reading_index (accepted s log) = length log
reading_index (refused n i) = i

-- the records: 23, 27, 28 or 24, or none
unfoldable pub records_unless : ℕ → List ℕ → Reading
records_unless zero bytes = accepted (site_in bytes) (map record_of (records_in bytes))
records_unless (suc n) bytes = refused (suc n) (first_bad (site_in bytes) [] (records_in bytes))

unfoldable pub read_records : List ℕ → Reading
read_records bytes = records_unless (first (record_refusals (site_in bytes) [] (records_in bytes))) bytes

-- on 20 to 22 the index is 0
unfoldable pub read_unless : ℕ → List ℕ → Reading
read_unless zero bytes = read_records bytes
read_unless (suc n) bytes = refused (suc n) 0

unfoldable pub read_image : List ℕ → Reading
read_image bytes = read_unless (first (head_refusals bytes)) bytes

-- number and index in one number of 16 bits, the number in the low byte
unfoldable pub check_image : List ℕ → ℕ
check_image bytes = reading_number (read_image bytes) + 256 * reading_index (read_image bytes)

-- ---- writing

-- a log that no accepted image holds is refused by 21, or by 23, 27, 28 or 24 at each record in turn, before 25
unfoldable pub log_refusals : ℕ → List LogRecord → List (ℕ × Bool)
log_refusals s log = (21, over_limit s (length log)) ∷ record_refusals s [] (map bytes_of log)

unfoldable pub write_refusals : ℕ → List LogRecord → ℕ → List ℕ → List (ℕ × Bool)
write_refusals s log at buffer = log_refusals s log ++ ((25, ltb (length buffer) (at + length (image s log))) ∷ [])

-- a buffer with bytes stored from `at` on
unfoldable pub stored : ℕ → List ℕ → List ℕ → List ℕ
stored at bytes buffer = take at buffer ++ bytes ++ drop (at + length bytes) buffer

-- the answer, and what the whole buffer holds then
pub record Written : Type 0 where
  pub answer : ℕ
  pub buffer : List ℕ

unfoldable pub write_unless : ℕ → ℕ → List LogRecord → ℕ → List ℕ → Written
write_unless zero s log at buffer = record { answer = 0; buffer = stored at (image s log) buffer }
write_unless (suc n) s log at buffer = record { answer = suc n; buffer = buffer }

unfoldable pub write_image : ℕ → List LogRecord → ℕ → List ℕ → Written
write_image s log at buffer = write_unless (first (write_refusals s log at buffer)) s log at buffer

-- ---- an image read, and its log written again at an offset of another buffer

unfoldable pub copy_reading : Reading → ℕ → List ℕ → Written
copy_reading (accepted s log) at buffer = write_image s log at buffer
copy_reading (refused n i) at buffer = record { answer = n; buffer = buffer }

unfoldable pub copy_image : List ℕ → ℕ → List ℕ → Written
copy_image bytes at buffer = copy_reading (read_image bytes) at buffer
