-- The records of a log, checked one after the other before they are written. Assumes nothing.
use mathlib.Core.Path.{◌≡◌, ap, ◌∙◌}
use mathlib.Core.Bool.{true, false}
use mathlib.Core.List.{List, [], map}
use Prim.Native.Nat.{ℕ, ◌+◌, ◌<◌}
use lib.ListN.{length, get_or, set, length-map}
use Rattle.codec.specs.Lists.{first}
use Rattle.codec.specs.Records.{LogRecord, bytes_of, record_of, kind_and_length, record_refusals}
use Rattle.codec.specs.Image.{over_limit, log_refusals}
use Rattle.std.specs.Prelude.{Result, Ok, Err}
use Rattle.codec.specs.Answers.{record_in, no_record, refusal_number}
use Rattle.codec.specs.Inside.{bytes_in, answer_on}
use Rattle.codec.specs.declared.record.Record.{Record}
use Rattle.codec.specs.declared.refusal.Refusal.{Refusal}
use Rattle.codec.proofs.Lists.{getD_map-below}
use Rattle.codec.proofs.Passed.{Passed, passed_next, stopped}

pub refused_limit : (s : ℕ) (log : List LogRecord) → over_limit s (length log) ≡ true → first (log_refusals s log) ≡ 21
unfolding log_refusals first
refused_limit s log e = rw e

pub refused_record : (s : ℕ) (log : List LogRecord) → over_limit s (length log) ≡ false → first (log_refusals s log) ≡ first (record_refusals s [] (map bytes_of log))
unfolding log_refusals first
refused_record s log e = rw e

-- the answer on a record of a site, behind the newest of its transaction
abbrev pub answer_for : ℕ → List Record → Record → Result Record Refusal
answer_for s newest x = answer_on s (bytes_of (record_in x)) (record_in (get_or newest x.transaction no_record)) x

module _ (s : ℕ) (records newest : List Record) (i : ℕ) (p : Passed s (bytes_in records) newest i) (more : i < length records) where
  abbrev x : Record
  x = get_or records i no_record

  here_is : get_or (bytes_in records) i [] ≡ bytes_of (record_in x)
  here_is =
      getD_map-below bytes_of (map record_in records) i (record_in no_record) [] (rw length-map more)
      ∙ ap bytes_of (getD_map-below record_in records i no_record (record_in no_record) more)

  there : i < length (bytes_in records)
  there = simp length-map more

  record_is : kind_and_length s (get_or (bytes_in records) i []) ≡ true → record_in x ≡ record_of (get_or (bytes_in records) i [])
  unfolding record_of bytes_of
  record_is e = rw here_is

  pub log-stopped : (e : Refusal) → answer_for s newest x ≡ Err e → refusal_number e ≡ first (record_refusals s [] (bytes_in records))
  log-stopped e is = (rw here_is at (stopped s (bytes_in records) newest i p there x record_is) e is).0

  pub log_next : (r : Record) → answer_for s newest x ≡ Ok r → Passed s (bytes_in records) (set newest r.transaction r) (i + 1)
  log_next = rw here_is at (passed_next s (bytes_in records) newest i p there x record_is)
