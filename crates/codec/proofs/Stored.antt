-- What the writer stores: a record's bytes one by one, and bytes of a list in turn. Assumes nothing.
use Prim.Native.Nat.{ℕ, ◌+◌, ◌-◌, ◌≤◌}
use mathlib.Core.Path.{◌≡◌}
use mathlib.Core.List.{List, [], ◌∷◌}
use native.Mathlib.Omega.{arith}
use lib.ListN.{length, take}
use lib.Seq.{sets, sets-eq}
use Rattle.codec.specs.Records.{bytes_of, length_of}
use Rattle.codec.specs.Image.{stored}
use Rattle.codec.specs.Answers.{record_in}
use Rattle.codec.specs.declared.record.Record.{Record}
use Rattle.codec.specs.Laws.Fields.{bytes_length}

pub stored_record : (x : Record) (n : ℕ) (buffer : List ℕ) → length (bytes_of (record_in x)) ≤ length buffer → length (bytes_of (record_in x)) ≡ 2 + n
    → sets buffer 0 (x.kind ∷ x.transaction ∷ take n (x.first ∷ x.second ∷ [])) ≡ stored 0 (bytes_of (record_in x)) buffer
unfolding stored bytes_of record_in
stored_record x n buffer h e =
    let same : n ≡ length_of x.kind - 2 = omega (arith, bytes_length x) in
    rw same (sets-eq (bytes_of (record_in x)) buffer 0 (omega arith))
