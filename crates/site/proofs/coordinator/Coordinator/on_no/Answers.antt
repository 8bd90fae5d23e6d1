use mathlib.Core.Path.{sym, ◌∙◌}
use Rattle.codec.specs.Lists.{only_if}
use Rattle.site.specs.Coordinator.{on_no}
use Rattle.site.proofs.coordinator.Coordinator.on_no.Goals as goal

pub returns-else-member : goal.returns-else-member
unfolding on_no only_if
returns-else-member c t =
    rw (c.aborting.ensures t, c.writes_init.ensures, c.without-told.ensures, c.in-Collecting.is, sym c.member.ensures ∙ c.if-member.false, sym c.without-rest.ensures)
