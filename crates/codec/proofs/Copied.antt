-- What the reader's answer tells the checker and the copier. Assumes nothing.
use mathlib.Core.Path.{◌≡◌, ap, sym, ◌∙◌}
use mathlib.Core.List.{List, map}
use Prim.Native.Nat.{ℕ, ◌+◌, ◌*◌, ◌≤◌}
use lib.ListN.{length}
use Rattle.std.specs.Prelude.{Ok, Err}
use Rattle.codec.specs.Lists.{first}
use Rattle.codec.specs.Records.{record_of}
use Rattle.codec.specs.Image.{Reading, accepted, refused, site_in, records_in, read_image, check_image, log_refusals, write_image, copy_reading, copy_image}
use Rattle.codec.specs.Answers.{Values, refusal_number, log_in, values, image_values, written}
use Rattle.codec.specs.declared.log.Log.{Log}
use Rattle.codec.specs.declared.reader.BadImage.{BadImage}
use Rattle.codec.specs.Laws.Readings.{values-number, values-index, accepted_by_zero}
use Rattle.codec.specs.Laws.RoundTrip.{readable_writable}
use Rattle.codec.proofs.Held.{passed_few}
use Rattle.codec.proofs.Passed.{refusal_not_zero}

-- number and index of the reading
pub checked : (bytes : List ℕ) (v : Values) → v ≡ values (read_image bytes) → v.answer + 256 * v.index ≡ check_image bytes
unfolding check_image
checked bytes v e = rw (e, values-number (read_image bytes), values-index (read_image bytes))

-- an image that is refused
pub copy_refused : (bytes : List ℕ) (b : BadImage) → image_values (Err b) ≡ values (read_image bytes)
    → (at : ℕ) (buffer : List ℕ) → copy_image bytes at buffer ≡ written (refusal_number b.refusal) buffer
unfolding copy_image copy_reading image_values values
copy_refused bytes b e at buffer = by (read_image bytes) (ap (λ (v : Values). v.answer) e)
  where
    by : (v : Reading) → refusal_number b.refusal ≡ (values v).answer → copy_reading v at buffer ≡ written (refusal_number b.refusal) buffer
    by (accepted s log) a = absurd (refusal_not_zero b.refusal a)
    by (refused n i) a = rw a

-- an image that holds a log
module _ (bytes : List ℕ) (l : Log) (e : image_values (Ok l) ≡ values (read_image bytes)) where
  sound : read_image bytes ≡ accepted (site_in bytes) (map record_of (records_in bytes))
  unfolding image_values
  sound = accepted_by_zero bytes (sym (values-number (read_image bytes)) ∙ sym (ap (λ (v : Values). v.answer) e))

  same_log : (l.site ≡ site_in bytes) × (l.count ≡ length (map record_of (records_in bytes))) × (log_in l ≡ map record_of (records_in bytes))
  unfolding image_values values
  same_log = let v = rw sound at e in (ap (λ (v : Values). v.site) v, ap (λ (v : Values). v.count) v, ap (λ (v : Values). v.log) v)

  pub copy_accepted : (at : ℕ) (buffer : List ℕ) → copy_image bytes at buffer ≡ write_image l.site (log_in l) at buffer
  unfolding copy_image copy_reading
  copy_accepted at buffer = rw (sound, same_log.2, same_log.0)

  -- it is not refused
  pub read_passed : first (log_refusals l.site (log_in l)) ≡ 0
  read_passed = rw (same_log.2, same_log.0) (readable_writable bytes _ _ sound)

  pub read_few : l.count ≤ 24
  read_few = rw (same_log.1, ← same_log.2) (passed_few l.site (log_in l) read_passed)
