-- The records of a log in turn, as the loops of the writer pass them. Assumes nothing.
use Prim.Native.Nat.{ℕ, ◌+◌, ◌*◌, ◌≤◌, ◌<◌, zero-le}
use mathlib.Core.Path.{◌≡◌, refl, ap}
use mathlib.Core.List.{List, [], ◌∷◌, ◌++◌, flatten}
use native.Mathlib.Numerals.{add-one}
use native.Mathlib.Omega.{arith}
use lib.ListN.{length, get_or, take, drop, length-map, drop_of_length-le}
use lib.Seq.{drop-cons}
use mir.Syntax.{w64}
use mir.Val.{Fits}
use Rattle.codec.specs.Records.{bytes_of}
use Rattle.codec.specs.Image.{magic, head_length, word, pair_table, image}
use Rattle.codec.specs.Answers.{record_in, no_record, log_in}
use Rattle.codec.specs.Inside.{bytes_in}
use Rattle.codec.specs.declared.record.Record.{Record}
use Rattle.codec.specs.declared.log.Log.{Log}
use Rattle.codec.specs.Laws.Fields.{bytes_length, length_most}
use Rattle.codec.proofs.Held.{held-count, held_bytes, held-length}
use Rattle.codec.specs.Laws.Tables.{length_table}
use Rattle.codec.specs.Laws.Stored.{Next}

-- the records, as bytes, from one on
abbrev pub bytes_from : List Record → ℕ → List (List ℕ)
bytes_from records i = bytes_in (drop i records)

-- a loop that has passed i records, and the number to which it adds their lengths
pub record Counted (records : List Record) (i sum : ℕ) : Type 0 where
  pub upto : i ≤ length records
  pub few : length records ≤ 24
  pub near : sum ≤ 102 + 4 * i

-- behind the head
pub counted_head : {records : List Record} {sum : ℕ} → length records ≤ 24 → sum ≡ head_length (length records) → Counted records 0 sum
unfolding head_length
counted_head few e = record { upto = zero-le; few = few; near = omega arith }

module _ {records : List Record} {i sum : ℕ} (w : Counted records i sum) where
  pub bytes_end : length records ≤ i → bytes_from records i ≡ []
  bytes_end p = ap bytes_in (drop_of_length-le records {i = i} p)

  bytes_next : i < length records → bytes_from records i ≡ bytes_of (record_in (get_or records i no_record)) ∷ bytes_from records (i + 1)
  bytes_next p =
      let next : drop i records ≡ get_or records i no_record ∷ drop (i + 1) records = rw add-one (drop-cons records i no_record p) in
      ap bytes_in next

  pub flat_next : i < length records → Next (flatten (bytes_from records i)) (bytes_of (record_in (get_or records i no_record))) (flatten (bytes_from records (i + 1)))
  unfolding flatten
  flat_next p = record { split = ap flatten (bytes_next p) }

  module _ {k : ℕ} (p : i < length records) (e : k ≡ length (bytes_of (record_in (get_or records i no_record)))) where
    pub counted_next : Counted records (i + 1) (sum + k)
    counted_next =
        let x = get_or records i no_record in
        record { upto = omega arith; few = w.few; near = omega (arith, bytes_length x, length_most x.kind) }

    pub sum_fits : Fits w64 (sum + k)
    sum_fits = let next = counted_next in omega arith

    pub pair_small : (sum < 65536) × (k < 65536)
    pair_small = let next = counted_next in (omega arith, omega arith)

    pub table_next : Next (pair_table sum (bytes_from records i)) (word sum ++ word k) (pair_table (sum + k) (bytes_from records (i + 1)))
    unfolding pair_table
    table_next = record { split = rw e (ap (pair_table sum) (bytes_next p)) }

-- ---- the whole log

-- the table and the records of an image
abbrev pub table_of : List Record → List ℕ
table_of records = pair_table (head_length (length records)) (bytes_in records)

abbrev pub records_of : List Record → List ℕ
records_of records = flatten (bytes_in records)

pub image_table : (records : List Record) → Next (table_of records ++ records_of records) (table_of records) (records_of records)
image_table records = record { split = refl }

module _ (log : Log) (few : log.count ≤ 24) (fit : length log.records ≡ 24) (records : List Record) (e : records ≡ take log.count log.records) where
  pub image_head : Next (image log.site (log_in log)) (magic ++ log.site ∷ log.count ∷ []) (table_of records ++ records_of records)
  unfolding image magic
  image_head = record { split = rw (e, held_bytes log few, held-count log fit, held-length log few fit) }

  pub head_end : head_length log.count ≡ 6 + length (table_of records)
  unfolding head_length
  head_end = rw (length_table, length-map, length-map, e, held-length log few fit)
