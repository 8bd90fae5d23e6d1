-- A number in decimal digits, as characters. No reader has to believe it: proofs/ shows what it has to do with 01.
use Rattle.std.specs.Prelude.{ℕ, ◌+◌, ◌-◌, ◌*◌, ◌≤◌, get_or}
use mathlib.Core.List.{List, [], ◌∷◌}

-- these characters are digits
abbrev pub AllDigits : List ℕ → Type 0
AllDigits cs = (k : ℕ) → (48 ≤ get_or cs k 48) × (get_or cs k 48 ≤ 57)

-- the number that has these digits behind those of n
unfoldable pub value_from : ℕ → List ℕ → ℕ
value_from n [] = n
value_from n (c ∷ cs) = value_from (10 * n + (c - 48)) cs

abbrev pub value : List ℕ → ℕ
value cs = value_from 0 cs
