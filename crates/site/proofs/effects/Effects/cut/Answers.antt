use Prim.Native.Nat.{ℕ, ◌-◌}
use mathlib.Core.Path.{ap, ◌∙◌}
use Rattle.site.proofs.Cut.{cut_law}
use Rattle.site.proofs.effects.Effects.cut.Goals as goal

pub returns : goal.returns
returns c =
    let a = c.args in
    let e = a.self in
    let forces = c.saturating_sub-forces in
    let enters = c.saturating_sub-enters in
    let sends = c.saturating_sub-sends in
    let closes = c.saturating_sub-closes in
    rw (c.up_to.ensures, c.up_to-2.ensures, c.up_to-3.ensures)
    (cut_law a.transaction e a.most forces.result enters.result sends.result closes.result c.first_sent.result
    (forces.ensures ∙ ap (λ (k : ℕ). a.most - k) c.one_if.ensures.0)
    (enters.ensures ∙ ap (λ (k : ℕ). forces.result - k) c.one_if-2.ensures.0)
    (sends.ensures ∙ ap (λ (k : ℕ). enters.result - k) c.entries.ensures.0)
    (closes.ensures ∙ ap (λ (k : ℕ). sends.result - k) (c.sends.ensures.0 a.transaction))
    c.first_sent.ensures)
