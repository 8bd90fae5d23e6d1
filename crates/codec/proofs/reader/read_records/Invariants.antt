use mathlib.Core.Path.{◌≡◌}
use Rattle.codec.specs.Image.{site_in, count_in}
use Rattle.codec.proofs.Filled.{Filled}
use Rattle.codec.proofs.reader.read_records.Given as goal

abbrev pub invariant-loop-i : goal.invariant-loop-i
invariant-loop-i l =
    (l.i-end ≡ count_in l.bytes) × ((l.log.site ≡ site_in l.bytes) × ((l.log.count ≡ count_in l.bytes) × Filled l.bytes l.log.records l.newest.of l.at l.i))
