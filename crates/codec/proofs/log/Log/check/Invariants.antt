use Rattle.codec.specs.Inside.{bytes_in}
use Rattle.codec.proofs.Passed.{Passed}
use Rattle.codec.proofs.log.Log.check.Given as goal

abbrev pub invariant-loop-record : goal.invariant-loop-record
invariant-loop-record l = Passed l.self.site (bytes_in l.record-items) l.newest.of l.record-index
