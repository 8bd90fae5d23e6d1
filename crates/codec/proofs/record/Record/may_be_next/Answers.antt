use Rattle.std.proofs.Common.{sym, le-leb}
use Rattle.std.proofs.Math.Bool.{and-true}
use Rattle.codec.specs.Lists.{every}
use Rattle.codec.specs.Inside.{next_kinds, may_be_next}
use Rattle.codec.proofs.record.Record.may_be_next.Goals as goal

pub returns-then-kind-le-LAST_KIND : goal.returns-then-kind-le-LAST_KIND
unfolding may_be_next every next_kinds
returns-then-kind-le-LAST_KIND c =
    let a = c.args in
    let low = c.if-kind-le-LAST_KIND.true in
    rw (c.from.ensures, le-leb a.before 7 low.0, le-leb a.kind 7 low.1) (sym (and-true _))
