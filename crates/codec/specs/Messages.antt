-- Message numbers: 16 bits for a message of kind k to or from participant p on transaction t.
use Rattle.std.specs.Prelude.{ℕ, ◌+◌, ◌-◌, ◌*◌, ◌/◌, ◌%◌, Bool, cond, List, [], ◌∷◌, set, eqb, leb, ltb}
use Rattle.std.proofs.Math.Option.{Option, none, some}
use Rattle.codec.specs.Lists.{every, only_if}
use Rattle.codec.specs.Image.{Written}

pub record Parts : Type 0 where
  pub transaction : ℕ
  pub participant : ℕ
  pub kind : ℕ

-- kinds 0 to 6: 56h + 7(b-1) + k, below 448; kind 7, the read-only vote: 448 + 8h + (b-1), below 512
unfoldable pub message_number : Parts → ℕ
message_number m =
    cond (eqb m.kind 7)
    (448 + 8 * m.transaction + (m.participant - 1))
    (56 * m.transaction + 7 * (m.participant - 1) + m.kind)

-- `none`: refused by 26, which starts at 512
unfoldable pub message_parts : ℕ → Option Parts
message_parts n =
    only_if (ltb n 512)
    (cond (ltb n 448)
    (record { transaction = n / 56; participant = n % 56 / 7 + 1; kind = n % 7 })
    (record { transaction = (n - 448) / 8; participant = (n - 448) % 8 + 1; kind = 7 }))

-- the answer in numbers: 0, transaction, participant and kind; or 26
unfoldable pub message_answer : Option Parts → List ℕ
message_answer none = 26 ∷ []
message_answer (some m) = 0 ∷ m.transaction ∷ m.participant ∷ m.kind ∷ []

-- the same in three lent bytes, which a refusal leaves as they were
unfoldable pub parts_written : Option Parts → List ℕ → Written
parts_written none parts = record { answer = 26; buffer = parts }
parts_written (some m) parts = record { answer = 0; buffer = set (set (set parts 0 m.transaction) 1 m.participant) 2 m.kind }

-- the way back; parts that no message has are refused by 26 too
unfoldable pub is_message : Parts → Bool
is_message m = every (leb m.transaction 7 ∷ leb 1 m.participant ∷ leb m.participant 8 ∷ leb m.kind 7 ∷ [])

unfoldable pub number_of : Parts → Option ℕ
number_of m = only_if (is_message m) (message_number m)

-- in numbers: 0 and the message's number; or 26
unfoldable pub number_answer : Option ℕ → List ℕ
number_answer none = 26 ∷ []
number_answer (some n) = 0 ∷ n ∷ []
