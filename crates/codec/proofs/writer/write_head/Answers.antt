use mathlib.Core.Path.{◌∙◌}
use mathlib.Core.List.{◌∷◌, []}
use native.Mathlib.Omega.{arith}
use Rattle.codec.specs.Image.{magic, stored}
use Rattle.codec.specs.Laws.Stored.{length-stored, stored-two, two-stored}
use Rattle.codec.proofs.writer.write_head.Goals as goal

pub returns : goal.returns
unfolding magic stored
returns c =
    let a = c.args in
    let out = c.args.out.now in
    rw c.copy_from_slice.ensures.after
    (two-stored (stored 0 magic out) 4 a.site a.count (rw (length-stored 0 magic out (omega arith)) c.requires)
    ∙ stored-two magic (a.site ∷ a.count ∷ []) out (omega arith))
