-- What owning a run's logs tells of their arrays: each site has 24 records.
use Prim.Native.Nat.{ℕ, zero, suc, ◌≤◌, ◌<◌}
use mathlib.Core.Path.{◌≡◌}
use mathlib.Core.List.{List, [], ◌∷◌}
use lib.ListN.{length, get_or}
use native.Mathlib.Omega.{arith}
use mir.Val.{Val}
use base.Fml.{Fml}
use denote.Shadow.{shadow}
use denote.Laws.{Is}
use denote.Array.{each}
use denote.Struct.Declared.{row}
use Rattle.joint.specs.declared.records.Records.{Records}
use Rattle.joint.proofs.Engine.Arrays.{length-shown}
use Rattle.joint.specs.contracts.records.Records as records

-- one element of an array
one_of : (d : Type 0) (f : d → List Val → Fml) (xs : List d) (us : List Val) → shadow (each d f xs us) → (i : ℕ) → i < length xs → (e : d) → (u : Val) × shadow (f (get_or xs i e) (u ∷ []))
one_of d f [] us s i h e = absurd (omega (arith, h))
one_of d f (x ∷ xs) [] s i h e = absurd s
one_of d f (x ∷ xs) (u ∷ us) s zero h e = (u, s.0)
one_of d f (x ∷ xs) (u ∷ us) s (suc i) h e = one_of d f xs us s.1 i (omega (arith, h)) e

records-whole : (x : Records) (vs : List Val) → Is (row records.the_type) x vs → length x.of ≡ 24
records-whole x vs p = let e = p.1.1.0.1.0.1 in search length-shown

pub logs-whole : (l : List Records) (us : List Val) → shadow (each records.the_row.Denot records.the_row.own_val l us) → length l ≡ 9 → (i : ℕ) (d : Records) → i ≤ 8 → length (get_or l i d).of ≡ 24
logs-whole l us s n i d h =
    let R = records.the_row in
    let one = one_of R.Denot R.own_val l us s i (omega (arith, h, n)) d in
    records-whole (get_or l i d) (one.0 ∷ []) one.1
