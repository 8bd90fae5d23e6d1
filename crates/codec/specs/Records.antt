-- Log records: kinds, fields, lengths, and the order in which those of one transaction (01: handover) stand in a site's log.
-- Kinds at the coordinator (01: hub): 1 Init, 2 Commit, 3 CommitEnd, 4 AbortEnd; at a participant (01: box): 5 Prepared, 6 Committed, 7 Aborted.
use Rattle.std.specs.Prelude.{ℕ, zero, suc, Bool, true, false, not, ◌&&◌, ◌||◌, List, [], ◌∷◌, ◌++◌, map, length, get_or, drop, eqb, leb, ltb}
use Rattle.codec.specs.Lists.{select, any, all, every, same, first}
use Rattle.codec.specs.Sets.{empty, both, minus, part}

pub record LogRecord : Type 0 where
  pub kind : ℕ
  pub transaction : ℕ
  pub fields : List ℕ

-- a record as bytes: kind, transaction, and its fields
unfoldable pub bytes_of : LogRecord → List ℕ
bytes_of x = x.kind ∷ x.transaction ∷ x.fields

unfoldable pub record_of : List ℕ → LogRecord
record_of bytes = record { kind = get_or bytes 0 0; transaction = get_or bytes 1 0; fields = drop 2 bytes }

-- Length is fixed by kind: 1 and 2 are kind, handover, members, PC; 5 is kind, handover, presumption; the rest kind, handover. (0 is no kind.)
unfoldable pub lengths : List ℕ
lengths = 0 ∷ 4 ∷ 4 ∷ 2 ∷ 2 ∷ 3 ∷ 2 ∷ 2 ∷ []

unfoldable pub length_of : ℕ → ℕ
length_of kind = get_or lengths kind 0

-- members and PC of a record 1 or 2
unfoldable pub members_in : LogRecord → ℕ
members_in x = get_or x.fields 0 0

unfoldable pub presume_commit_in : LogRecord → ℕ
presume_commit_in x = get_or x.fields 1 0

-- a record 2 with a PrA member: its commit is not closed before record 3
unfoldable pub awaits_acks : LogRecord → Bool
awaits_acks x = not (empty (minus (members_in x) (presume_commit_in x)))

-- ---- refusals 23, 27 and 28: one record by itself

unfoldable pub record_kind_at : ℕ → ℕ → Bool
record_kind_at zero kind = leb 1 kind && leb kind 4
record_kind_at (suc n) kind = leb 5 kind && leb kind 7

-- bytes whose kind is one of site s, and whose length is that kind's
unfoldable pub kind_and_length : ℕ → List ℕ → Bool
kind_and_length s bytes = record_kind_at s (record_of bytes).kind && eqb (length bytes) (length_of (record_of bytes).kind)

-- members not 0, PC a part of members
unfoldable pub masks_in_range : LogRecord → Bool
masks_in_range x = every (leb 1 (members_in x) ∷ leb (members_in x) 255 ∷ part (presume_commit_in x) (members_in x) ∷ [])

-- the fields behind the transaction, by kind: Init has PC not empty; a presumption is 0 or 1
unfoldable pub fields_in_range : LogRecord → Bool
fields_in_range x =
    get_or
    (false
    ∷ (masks_in_range x && not (empty (presume_commit_in x)))
    ∷ masks_in_range x
    ∷ true
    ∷ true
    ∷ leb (get_or x.fields 0 0) 1
    ∷ true
    ∷ true
    ∷ [])
    x.kind
    false

-- ---- refusal 24: the sequence per transaction

-- the kinds of the records that a site may have of one transaction, in log order
unfoldable pub sequences : ℕ → List (List ℕ)
sequences zero =
    (1 ∷ []) ∷ (1 ∷ 2 ∷ []) ∷ (1 ∷ 2 ∷ 3 ∷ []) ∷ (2 ∷ []) ∷ (2 ∷ 3 ∷ []) ∷ (3 ∷ []) ∷ (1 ∷ 4 ∷ []) ∷ (4 ∷ []) ∷ []
sequences (suc n) = (5 ∷ []) ∷ (5 ∷ 6 ∷ []) ∷ (5 ∷ 7 ∷ []) ∷ (6 ∷ []) ∷ (7 ∷ []) ∷ []

-- record 2 behind record 1: its members are a part of Init's, its PC is Init's among them
unfoldable pub within_init : LogRecord → LogRecord → Bool
within_init init commit =
    part (members_in commit) (members_in init) && eqb (presume_commit_in commit) (both (presume_commit_in init) (members_in commit))

-- an earlier record x and a later one y of a transaction: masks of 2 within those of 1, and a PrA member before 3
unfoldable pub agrees : LogRecord → LogRecord → Bool
agrees x y =
    (not (eqb x.kind 1 && eqb y.kind 2) || within_init x y)
    && (not (eqb x.kind 2 && eqb y.kind 3) || awaits_acks x)

unfoldable pub of_transaction : ℕ → LogRecord → Bool
of_transaction t x = eqb x.transaction t

-- x may stand behind the records before it at site s
unfoldable pub in_sequence : ℕ → List LogRecord → LogRecord → Bool
in_sequence s before x =
    let own = select (of_transaction x.transaction) before in
    any (same (map (λ y. y.kind) own ++ (x.kind ∷ []))) (sequences s) && all (λ y. agrees y x) own

-- ---- 23, 27, 28 and 24 at each record in turn

-- one record, behind the records before it: 23 kind or length, 27 transaction above 7, 28 a mask or presumption, 24 sequence
unfoldable pub record_tests : ℕ → List LogRecord → List ℕ → List (ℕ × Bool)
record_tests s before bytes =
    (23, not (kind_and_length s bytes))
    ∷ (27, ltb 7 (record_of bytes).transaction)
    ∷ (28, not (fields_in_range (record_of bytes)))
    ∷ (24, not (in_sequence s before (record_of bytes)))
    ∷ []

unfoldable pub record_refusals : ℕ → List LogRecord → List (List ℕ) → List (ℕ × Bool)
record_refusals s before [] = []
record_refusals s before (bytes ∷ rest) = record_tests s before bytes ++ record_refusals s (before ++ (record_of bytes ∷ [])) rest

-- one record further, unless a number refuses it
unfoldable pub further_unless : ℕ → ℕ → ℕ
further_unless zero i = suc i
further_unless (suc n) i = 0

-- the index, from 0, of the first bad record; where none is bad, how many there are
unfoldable pub first_bad : ℕ → List LogRecord → List (List ℕ) → ℕ
first_bad s before [] = 0
first_bad s before (bytes ∷ rest) = further_unless (first (record_tests s before bytes)) (first_bad s (before ++ (record_of bytes ∷ [])) rest)
