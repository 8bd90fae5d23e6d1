-- Job 4 of 02: forced writes and handovers of each site, and the quotient with its exact remainder. Both totals come from the history of events.
use Rattle.std.specs.Prelude.{ℕ, zero, suc, ◌+◌, ◌*◌, ◌/◌, ◌%◌, ◌<◌, min, ◌≡◌, Bool, List, [], ◌∷◌, ◌++◌, map, length, take, get_or, eqb}
use Rattle.codec.specs.Lists.{select, every, same}
use Rattle.codec.specs.Sets.{participants}
use Rattle.joint.specs.State.{Run, fresh, names}
use Rattle.joint.specs.Run.{is_force, answers}
use Rattle.joint.specs.Safety.{Moment, history, steps, accepts}

-- 2 ^ 64 - 1
unfoldable pub highest : ℕ
highest = 18446744073709551615

-- a total is 64 bits wide and stays at its highest value once there
unfoldable pub held : ℕ → ℕ
held n = min n highest

-- a force at site s
unfoldable pub is_force_at : ℕ → Moment → Bool
is_force_at s m = every (eqb m.site s ∷ is_force m.act.effect ∷ [])

-- how many force effects happened at site s, those of cut events included
unfoldable pub forces_at : ℕ → List Moment → ℕ
forces_at s h = length (select (is_force_at s) h)

-- an accepted open whose members name site s
unfoldable pub is_opening_with : ℕ → Run × List ℕ → Bool
is_opening_with s x = every (same (take 1 x.1) (0 ∷ []) ∷ names (get_or x.1 2 0) s ∷ accepts x.0 x.1 ∷ [])

unfoldable pub openings_with : ℕ → List (Run × List ℕ) → ℕ
openings_with s l = length (select (is_opening_with s) l)

-- ---- the four numbers

pub record Totals : Type 0 where
  pub forces : ℕ
  pub handovers : ℕ
  pub quotient : ℕ
  pub remainder : ℕ

-- a site without handovers gives 0 and its forces as remainder
unfoldable pub totals_of : ℕ → ℕ → Totals
totals_of f zero = record { forces = f; handovers = 0; quotient = 0; remainder = f }
totals_of f (suc n) = record { forces = f; handovers = suc n; quotient = f / suc n; remainder = f % suc n }

-- of site s after a list of events: forced writes so far, and handovers opened with it
unfoldable pub totals : List (List ℕ) → ℕ → Totals
totals es s = totals_of (held (forces_at s (history fresh es))) (held (openings_with s (steps fresh es)))

-- ---- the claim: to the last one

unfoldable pub sum : List ℕ → ℕ
sum [] = 0
sum (n ∷ ns) = n + sum ns

pub record ToTheLast (es : List (List ℕ)) : Type 0 where
  -- forces = quotient × handovers + remainder: the division loses none
  pub divided : (s : ℕ) → let x = totals es s in x.forces ≡ x.quotient * x.handovers + x.remainder
  -- the remainder is below the handovers, unless there are none
  pub below : (s : ℕ) → let x = totals es s in (x.handovers ≡ 0 → ⊥) → x.remainder < x.handovers
  -- forces at their highest value stay there, whatever events follow
  pub stays : (later : List (List ℕ)) (s : ℕ) → (totals es s).forces ≡ highest → (totals (es ++ later) s).forces ≡ highest
  -- the forces that the answers count are those of the sites 0 to 8
  pub counted : sum (map (λ a. a.forces) (answers fresh es)) ≡ sum (map (λ s. forces_at s (history fresh es)) (0 ∷ participants))

-- every list of events, of any bytes and any length
abbrev pub EveryTotal : Type 0
EveryTotal = (events : List (List ℕ)) → ToTheLast events
