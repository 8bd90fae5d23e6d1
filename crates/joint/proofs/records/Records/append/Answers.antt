use mathlib.Core.Path.{◌≡◌, refl}
use mathlib.Core.Bool.{Bool, true, false, cond, not}
use mir.Val.{bool_byte}
use lib.Dec.{eqb}
use Rattle.joint.specs.Inside.{put_row}
use Rattle.joint.proofs.records.Records.append.Goals as goal

one_more : (none : Bool) → bool_byte (not none) ≡ cond none 0 1
one_more true = refl
one_more false = refl

pub returns : goal.returns
unfolding put_row
returns c =
    rw (c.put-2.ensures, c.put.ensures, c.from.ensures, one_more (eqb c.args.effects.appended 0), c.count-count.ensures) refl
