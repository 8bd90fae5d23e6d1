-- The five parts of a row: what it appends, whether it forces, what it enters, what it sends, what it appends last. Assumes nothing.
use Rattle.std.specs.Prelude.{◌≡◌, refl, List, [], ◌∷◌, ◌++◌, ℕ, zero, suc}
use Rattle.std.proofs.Common.{sym, append-nil}
use Rattle.site.specs.Step.{Effect, force, given}
use Rattle.site.specs.Numbers.{appending, entry_of}
use Rattle.site.specs.Answers.{fields_by, sending, closing, effects_in}
use Rattle.site.specs.declared.effects.Effects.{Effects}

closing-last : (k : ℕ) (es : List Effect) → closing k es ≡ es ++ appending k (fields_by k 0 0)
unfolding closing appending
closing-last zero es = sym (append-nil es)
closing-last (suc k) es = refl

pub five : (t : ℕ) (e : Effects)
    → effects_in t e
    ≡ appending e.appended (fields_by e.appended e.first e.second)
    ++ (given e.forced (force ∷ []) ++ (entry_of e.entered ++ (sending t e.message e.owing e.to ++ appending e.last (fields_by e.last 0 0))))
unfolding effects_in
five t e = rw closing-last
