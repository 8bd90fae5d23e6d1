use Rattle.site.proofs.Cut.{count_law}
use Rattle.site.proofs.effects.Effects.count.Goals as goal

pub returns : goal.returns
returns c t =
    let e = c.args.self in
    count_law t e _ _ _ _ _ c.one_if.ensures.0 c.one_if-2.ensures.0 c.entries.ensures.0 (c.sends.ensures.0 t) c.one_if-3.ensures.0
