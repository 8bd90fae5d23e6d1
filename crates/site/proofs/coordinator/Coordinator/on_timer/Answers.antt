use mathlib.Core.Path.{sym}
use Rattle.site.specs.Coordinator.{coordinator_timer}
use Rattle.site.proofs.coordinator.Coordinator.on_timer.Goals as goal

pub returns-in-Collecting : goal.returns-in-Collecting
unfolding coordinator_timer
returns-in-Collecting c t =
    rw (c.aborting.ensures t, c.writes_init.ensures, c.in-Collecting.is, sym c.without-rest.ensures)
