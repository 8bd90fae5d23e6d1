use mathlib.Core.Path.{sym, ◌∙◌}
use Rattle.codec.proofs.Behind.{commit_behind_init}
use Rattle.codec.proofs.record.Record.follows.Goals as goal

pub returns-then-part : goal.returns-then-part
returns-then-part c =
    let a = c.args in
    rw c.both.ensures (sym (commit_behind_init a.newest a.self c.in-1-eq2.is-0 c.in-1-eq2.is-1 ∙ rw (sym c.part.ensures ∙ c.if-part.true)))
