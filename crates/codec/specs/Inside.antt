-- What the program's inner functions promise each other. No reader has to believe it: proofs/ shows what it has to do with 01.
use Rattle.std.specs.Prelude.{ℕ, ◌+◌, ◌*◌, ◌/◌, ◌%◌, ◌^◌, ◌≤◌, ◌≡◌, Bool, true, false, not, List, [], ◌∷◌, map, length, get_or, eqb, leb, ltb, Result, Ok, Err}
use Rattle.codec.specs.Lists.{every}
use Rattle.codec.specs.Records.{LogRecord, bytes_of, record_of, kind_and_length, fields_in_range, agrees}
use Rattle.codec.specs.Image.{count_in, table_exact}
use Rattle.codec.specs.Answers.{record_in}
use Rattle.codec.specs.declared.record.Record.{Record}
use Rattle.codec.specs.declared.refusal.Refusal.{Refusal}
use Rattle.codec.specs.declared.refusal.Refusal.TheVariants.{WrongKind, WrongTransaction, WrongField, OutOfSequence}

-- ---- one record

-- the record that bytes are, if they are one
unfoldable pub record_from : List ℕ → Record
record_from bytes = record { kind = get_or bytes 0 0; transaction = get_or bytes 1 0; first = get_or bytes 2 0; second = get_or bytes 3 0 }

-- the kinds that may stand behind a kind of their transaction, as masks: bit k is kind k
unfoldable pub next_kinds : List ℕ
next_kinds = 0xFE ∷ 0x14 ∷ 0x08 ∷ 0 ∷ 0 ∷ 0xC0 ∷ 0 ∷ 0 ∷ []

-- kind k may stand behind kind j by those masks
unfoldable pub may_be_next : ℕ → ℕ → Bool
may_be_next j k = every (leb j 7 ∷ leb k 7 ∷ eqb (get_or next_kinds j 0 / 2 ^ k % 2) 1 ∷ [])

-- x behind y, the newest record of its transaction; `by_newest` in proofs/Sequence.antt: this is 01's sequence rule
unfoldable pub may_follow : LogRecord → LogRecord → Bool
may_follow y x =
    every (leb y.kind 7 ∷ leb x.kind 7 ∷ eqb (get_or next_kinds y.kind 0 / 2 ^ x.kind % 2) 1 ∷ agrees y x ∷ [])

-- by the tests 23, 27, 28 and 24
unfoldable pub answer_to : Bool → Bool → Bool → Bool → Record → Result Record Refusal
answer_to true b c d x = Err WrongKind
answer_to false true c d x = Err WrongTransaction
answer_to false false true d x = Err WrongField
answer_to false false false true x = Err OutOfSequence
answer_to false false false false x = Ok x

-- bytes of a record x at site s, behind y, the newest record of its transaction
abbrev pub answer_on : ℕ → List ℕ → LogRecord → Record → Result Record Refusal
answer_on s bytes y x =
    answer_to (not (kind_and_length s bytes)) (ltb 7 (record_of bytes).transaction) (not (fields_in_range (record_of bytes))) (not (may_follow y (record_of bytes))) x

-- records as bytes
abbrev pub bytes_in : List Record → List (List ℕ)
bytes_in records = map bytes_of (map record_in records)

-- ---- reading

-- an image that passed 20 to 22
pub record Readable (bytes : List ℕ) : Type 0 where
  pub whole : 6 ≤ length bytes
  pub few : count_in bytes ≤ 24
  pub exact : table_exact bytes ≡ true

-- 16 bits, low byte first
abbrev pub word_at : List ℕ → ℕ → ℕ
word_at bytes at = get_or bytes at 0 + 256 * get_or bytes (at + 1) 0

-- record i, which starts at `at`, lies in the image, and so does its pair
pub record Within (bytes : List ℕ) (at i : ℕ) : Type 0 where
  pub pair : 6 + 4 * i + 4 ≤ length bytes
  pub part : at + word_at bytes (6 + 4 * i + 2) ≤ length bytes
