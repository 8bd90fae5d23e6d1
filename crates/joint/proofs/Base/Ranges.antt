-- The numbers of an event that was parsed.
use Prim.Native.Nat.{ℕ, zero, suc, ◌<◌, ◌≤◌}
use mathlib.Core.Path.{◌≡◌, refl, subst}
use mathlib.Core.Bool.{Bool, true, false}
use mathlib.Core.List.{List}
use mathlib.Core.Option.{some}
use native.Mathlib.Omega.{arith}
use borrow.Author.Tests.{leb-true}
use Rattle.codec.specs.Lists.{only_if}
use Rattle.codec.specs.Sets.{part}
use Rattle.codec.specs.Laws.Tests.{every_at}
use Rattle.joint.specs.Event.{Event, opening, beginning, delivery, timeout, forcing, discarding, crash, restart, marking, event_of, ranges, bytes_in_range, Parsed, parse}

-- an opened transaction is one of eight, its members are a byte that is not 0, and PC a part of it; a delivered message is of a participant, and so is a mark
abbrev pub InRange : Event → Type 0
InRange (opening t M C) = (t < 8) × (M < 256) × (1 ≤ M) × (part C M ≡ true)
InRange (beginning t) = Unit {0}
InRange (delivery t p m) = 1 ≤ p
InRange (timeout t s) = Unit {0}
InRange (forcing s) = Unit {0}
InRange (discarding t s) = Unit {0}
InRange (crash s) = Unit {0}
InRange (restart s) = Unit {0}
InRange (marking t p) = 1 ≤ p

event_range : (code x y z : ℕ) → bytes_in_range code x y z ≡ true → InRange (event_of code x y z)
unfolding event_of bytes_in_range ranges
event_range zero x y z h =
    let a : x ≤ 7 = leb-true x 7 (every_at _ h 1) in
    let b : 1 ≤ y = leb-true 1 y (every_at _ h 2) in
    let c : y ≤ 255 = leb-true y 255 (every_at _ h 3) in
    (omega arith, omega arith, b, every_at _ h 5)
event_range (suc zero) x y z h = tt
event_range (suc (suc zero)) x y z h = leb-true 1 y (every_at _ h 2)
event_range (suc (suc (suc zero))) x y z h = tt
event_range (suc (suc (suc (suc zero)))) x y z h = tt
event_range (suc (suc (suc (suc (suc zero))))) x y z h = tt
event_range (suc (suc (suc (suc (suc (suc zero)))))) x y z h = tt
event_range (suc (suc (suc (suc (suc (suc (suc zero))))))) x y z h = tt
event_range (suc (suc (suc (suc (suc (suc (suc (suc zero)))))))) x y z h = leb-true 1 y (every_at _ h 2)
event_range (suc (suc (suc (suc (suc (suc (suc (suc (suc n))))))))) x y z h = tt

pub only-some : {A : Type 0} (b : Bool) (a c : A) → only_if b a ≡ some c → (b ≡ true) × (a ≡ c)
unfolding only_if
only-some true a c h = (refl, cc)
only-some false a c h = (cc, cc)

pub parse_range : (bytes : List ℕ) (e : Parsed) → parse bytes ≡ some e → InRange e.event
unfolding parse
parse_range bytes e h =
    let q = only-some _ _ e h in
    subst (λ (x : Parsed). InRange x.event) q.1 (event_range _ _ _ _ (every_at _ q.0 1))
