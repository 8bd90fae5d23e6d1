use mathlib.Core.Path.{refl}
use native.Mathlib.Omega.{arith}
use borrow.Author.Tests.{lt-leb}
use Rattle.codec.specs.Lists.{any, every}
use Rattle.joint.specs.Event.{ranges, bytes_in_range, cut_in_range}
use Rattle.joint.proofs.Engine.EventRanges.{byte, tests}
use Rattle.joint.proofs.events.in_range.Goals as goal

pub returns-in-0 : goal.returns-in-0
unfolding bytes_in_range cut_in_range ranges every any
returns-in-0 c =
    let f = c.ranges in
    rw (c.in-0.is, c.uncut.ensures, c.part.ensures)
    (simp (tests, byte f.y, byte f.z, byte f.cut, byte f.keep))

pub returns-in-9-to-255 : goal.returns-in-9-to-255
unfolding bytes_in_range every
returns-in-9-to-255 c = let code = c.args.code in rw (lt-leb code 8 (omega arith)) refl
