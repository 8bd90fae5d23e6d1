-- What the program's values stand for, and its answers in 01's numbers. Nothing here says what is right: Records, Image and Messages do.
use Rattle.std.specs.Prelude.{ℕ, ◌-◌, List, [], ◌∷◌, ◌++◌, map, length, take, replicate, Result, Ok, Err}
use Rattle.codec.specs.Records.{LogRecord, length_of}
use Rattle.codec.specs.Image.{Reading, accepted, refused, Written}
use Rattle.codec.specs.Messages as messages
use Rattle.codec.specs.declared.refusal.Refusal.{Refusal}
use Rattle.codec.specs.declared.refusal.Refusal.TheVariants.{NoOpening, OverLimit, TableNotExact, WrongKind, OutOfSequence, NoRoom, NoMessage, WrongTransaction, WrongField}
use Rattle.codec.specs.declared.record.Record.{Record}
use Rattle.codec.specs.declared.log.Log.{Log}
use Rattle.codec.specs.declared.reader.BadImage.{BadImage}
use Rattle.codec.specs.declared.message.Parts.{Parts}

-- ---- refusals

abbrev pub refusal_number : Refusal → ℕ
refusal_number NoOpening = 20
refusal_number OverLimit = 21
refusal_number TableNotExact = 22
refusal_number WrongKind = 23
refusal_number OutOfSequence = 24
refusal_number NoRoom = 25
refusal_number NoMessage = 26
refusal_number WrongTransaction = 27
refusal_number WrongField = 28

-- a result in 01's numbers: 0, or the refusal's
abbrev pub result_number : {A : Type 0} → Result A Refusal → ℕ
result_number (Ok x) = 0
result_number (Err e) = refusal_number e

-- ---- records and logs

-- a record has as many of its two fields as its kind
unfoldable pub record_in : Record → LogRecord
record_in x = record { kind = x.kind; transaction = x.transaction; fields = take (length_of x.kind - 2) (x.first ∷ x.second ∷ []) }

abbrev pub no_record : Record
no_record = record { kind = 0; transaction = 0; first = 0; second = 0 }

-- the first `count` of the 24 records that there are, and what is no record for each that is counted above those
unfoldable pub log_in : Log → List LogRecord
log_in l = take l.count (map record_in l.records) ++ replicate (l.count - 24) (record_in no_record)

-- a log without records
abbrev pub no_log : ℕ → Log
no_log s = record { site = s; count = 0; records = replicate 24 no_record }

-- ---- images

-- the answer on an image in numbers: 0, index, site, count and records; or the refusal, the index and nothing
pub record Values : Type 0 where
  pub answer : ℕ
  pub index : ℕ
  pub site : ℕ
  pub count : ℕ
  pub log : List LogRecord

unfoldable pub values : Reading → Values
values (accepted s log) = record { answer = 0; index = length log; site = s; count = length log; log = log }
values (refused n i) = record { answer = n; index = i; site = 0; count = 0; log = [] }

unfoldable pub image_values : Result Log BadImage → Values
image_values (Ok l) = record { answer = 0; index = l.count; site = l.site; count = l.count; log = log_in l }
image_values (Err b) = record { answer = refusal_number b.refusal; index = b.index; site = 0; count = 0; log = [] }

-- a call's number, and what the lent buffer holds then
abbrev pub written : ℕ → List ℕ → Written
written n bytes = record { answer = n; buffer = bytes }

-- ---- message numbers

unfoldable pub parts_in : Parts → messages.Parts
parts_in m = record { transaction = m.transaction; participant = m.participant; kind = m.kind }

-- 0 and the parts, or 26
unfoldable pub parts_values : Result Parts Refusal → List ℕ
parts_values (Ok m) = 0 ∷ m.transaction ∷ m.participant ∷ m.kind ∷ []
parts_values (Err e) = refusal_number e ∷ []

-- 0 and the number, or 26
unfoldable pub number_values : Result ℕ Refusal → List ℕ
number_values (Ok n) = 0 ∷ n ∷ []
number_values (Err e) = refusal_number e ∷ []
