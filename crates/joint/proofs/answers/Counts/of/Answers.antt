use mathlib.Core.Path.{refl, sym, ◌∙◌}
use Rattle.joint.proofs.Engine.Effects.{row-records, row-forces, row-sends}
use Rattle.joint.proofs.answers.Counts.of.Goals as goal

pub returns : goal.returns
returns c t =
    let e = c.args.effects in (
      rw (row-records t e, c.one_if.ensures.0, c.one_if-2.ensures.0) refl,
      (c.one_if-3.ensures.0 ∙ sym (row-forces t e), c.sends.ensures.0 t ∙ sym (row-sends t e)),
    )
