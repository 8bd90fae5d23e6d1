-- Which input a site is given, by numbers alone: a field's fact cites it. No reader has to believe it.
use Rattle.std.specs.Prelude.{ℕ, Bool, ◌&&◌, ◌||◌, eqb, leb, get_or}
use Rattle.site.specs.Step.{prepare, messages, receiver}

-- begin is the coordinator's and names participant 0, a timer its own site's, and a message goes to its receiver
abbrev pub asked : ℕ → ℕ → ℕ → Bool
asked s kind p =
    (eqb kind 16 && (eqb s 0 && eqb p 0))
    || ((eqb kind 17 && eqb s p) || (leb kind 7 && (leb 1 p && eqb s (receiver (get_or messages kind prepare) p))))
