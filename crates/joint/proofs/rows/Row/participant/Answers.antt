use mathlib.Core.Path.{refl, ap, ◌∙◌}
use Rattle.site.specs.Cohort.{Cohort, presumption_of}
use Rattle.joint.proofs.rows.Row.participant.Goals as goal

pub returns : goal.returns
returns c =
    (refl, (c.participant_phase.ensures, (c.presumption.ensures ∙ ap (λ (g : Cohort). presumption_of g c.args.site.number) c.coordinator-coordinator.ensures.0, c.marked.ensures)))
