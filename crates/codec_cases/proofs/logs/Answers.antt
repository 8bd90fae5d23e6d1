use Rattle.std.proofs.Common.{◌≡◌, ℕ, List, ap, slice_set, replicate}
use Rattle.codec.specs.Image.{write_image}
use Rattle.codec.specs.Answers.{log_in, record_in, no_log}
use Rattle.codec.specs.Open.{codec_opens}
use Rattle.codec.specs.declared.record.Record.{Record}
use Rattle.codec.specs.declared.log.Log.{Log}
use Rattle.codec_cases.proofs.logs.Goals as goal

-- a record 5 of a transaction, with a presumption
abbrev prepared : ℕ → ℕ → Record
prepared t p = record { kind = 5; transaction = t; first = p; second = 0 }

-- a log with a count, and with some records set
abbrev holding : ℕ → (List Record → List Record) → Log → Log
holding n put l = record { site = l.site; count = n; records = put l.records }

abbrev answer : Log → ℕ
answer l = (write_image l.site (log_in l) 0 (replicate 40 238)).answer

-- a log made from an empty one is answered as what is made from `no_log`
made : (make : Log → Log) (l : Log) (s : ℕ) → l ≡ no_log s → answer (make l) ≡ answer (make (no_log s))
made make l s e = ap (λ (l : Log). answer (make l)) e

pub refuses-requires-2 : goal.refuses-requires-2
unfolding codec_opens log_in record_in
refuses-requires-2 c = made (holding 1 λ rs. slice_set rs 0 (prepared 8 2)) c.new-eight.result 1 c.new-eight.ensures

pub refuses-requires-3 : goal.refuses-requires-3
unfolding codec_opens log_in record_in
refuses-requires-3 c = made (holding 1 λ rs. slice_set rs 0 (prepared 0 2)) c.new-one.result 1 c.new-one.ensures

pub refuses-requires-4 : goal.refuses-requires-4
unfolding codec_opens log_in record_in
refuses-requires-4 c = made (holding 2 λ rs. slice_set (slice_set rs 0 (prepared 0 0)) 1 (prepared 0 0)) c.new-two.result 1 c.new-two.ensures
