use mathlib.Core.Path.{sym, ◌∙◌}
use Rattle.codec.specs.Image.{magic}
use Rattle.codec.proofs.Opened.{opening_same, opens_by}
use Rattle.codec.proofs.reader.opens.Goals as goal

pub returns-then-bytes-ge-FIXED : goal.returns-then-bytes-ge-FIXED
unfolding magic
returns-then-bytes-ge-FIXED c = c.starts_with.ensures.value ∙ opening_same _ _ ∙ sym (opens_by _ c.if-bytes-ge-FIXED.true)
