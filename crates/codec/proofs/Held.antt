-- The records that a log of the program holds. Assumes nothing.
use mathlib.Core.Path.{◌≡◌}
use mathlib.Core.List.{List, map, flatten, append-nil}
use Prim.Native.Nat.{ℕ, ◌+◌, ◌-◌, ◌≤◌}
use native.Mathlib.Omega.{arith}
use lib.ListN.{length, take, length-append, length-take, length-map, length-replicate}
use Rattle.std.proofs.lemmas.List.{take-map}
use Rattle.codec.specs.Lists.{first}
use Rattle.codec.specs.Records.{LogRecord, bytes_of}
use Rattle.codec.specs.Image.{head_length, image, over_limit, log_refusals}
use Rattle.codec.specs.Answers.{record_in, log_in}
use Rattle.codec.specs.Inside.{bytes_in}
use Rattle.codec.specs.declared.log.Log.{Log}
use Rattle.codec.specs.Laws.Refusals.{passed}
use Rattle.codec.proofs.Opened.{few-records}
use Rattle.codec.specs.Laws.RoundTrip.{image-length}

-- it holds as many as it counts
pub held-count : (l : Log) → length l.records ≡ 24 → length (log_in l) ≡ l.count
unfolding log_in
held-count l h = simp (length-append, length-take, length-map, length-replicate) (omega arith)

module _ (l : Log) (few : l.count ≤ 24) where
  pub held : log_in l ≡ map record_in (take l.count l.records)
  unfolding log_in
  held = let none : l.count - 24 ≡ 0 = omega arith in rw (none, append-nil, take-map)

  pub held_bytes : bytes_in (take l.count l.records) ≡ map bytes_of (log_in l)
  held_bytes = rw held

  pub held-length : length l.records ≡ 24 → length (take l.count l.records) ≡ l.count
  held-length fit = simp length-take (omega arith)

-- a log that is not refused holds at most 24
pub passed_few : (s : ℕ) (log : List LogRecord) → first (log_refusals s log) ≡ 0 → length log ≤ 24
unfolding log_refusals first
passed_few s log e = few-records s (length log) (passed 20 (over_limit s (length log)) _ e).0

pub image-size : (l : Log) → l.count ≤ 24 → length l.records ≡ 24 → head_length (length (take l.count l.records)) + length (flatten (bytes_in (take l.count l.records))) ≡ length (image l.site (log_in l))
image-size l few fit = rw (image-length l.site (log_in l), held-count l fit, held_bytes l few, held-length l few fit)
