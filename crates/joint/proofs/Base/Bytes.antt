-- The six bytes of an event that was parsed.
use Prim.Native.Nat.{ℕ, zero, suc, ◌≤◌}
use mathlib.Core.Path.{◌≡◌, refl, sym, ap, subst}
use mathlib.Core.Bool.{true}
use mathlib.Core.List.{List, [], ◌∷◌}
use mathlib.Core.Option.{some}
use native.Mathlib.Omega.{arith}
use lib.ListN.{length, get_or, take}
use borrow.Author.Tests.{eqb-true, leb-true}
use Rattle.codec.specs.Laws.Tests.{every_at}
use Rattle.site.specs.Step.{Message, prepare, messages, message_kind}
use Rattle.joint.specs.Event.{Event, opening, beginning, delivery, timeout, forcing, discarding, crash, restart, marking, event_length, event_of, ranges, bytes_in_range, Parsed, parse}
use Rattle.joint.proofs.Base.Ranges.{only-some}

-- its code, its numbers and those that it does not use, cut c and keep k
pub data Bytes : List ℕ → Event → Type 0 where
  opens : (t M C c k : ℕ) → Bytes (0 ∷ t ∷ M ∷ C ∷ c ∷ k ∷ []) (opening t M C)
  begins : (t y z c k : ℕ) → Bytes (1 ∷ t ∷ y ∷ z ∷ c ∷ k ∷ []) (beginning t)
  delivers : (t p : ℕ) (m : Message) (c k : ℕ) → Bytes (2 ∷ t ∷ p ∷ message_kind m ∷ c ∷ k ∷ []) (delivery t p m)
  times : (t s z c k : ℕ) → Bytes (3 ∷ t ∷ s ∷ z ∷ c ∷ k ∷ []) (timeout t s)
  forces : (x s z c k : ℕ) → Bytes (4 ∷ x ∷ s ∷ z ∷ c ∷ k ∷ []) (forcing s)
  discards : (t s z c k : ℕ) → Bytes (5 ∷ t ∷ s ∷ z ∷ c ∷ k ∷ []) (discarding t s)
  crashes : (x s z c k : ℕ) → Bytes (6 ∷ x ∷ s ∷ z ∷ c ∷ k ∷ []) (crash s)
  restarts : (x s z c k : ℕ) → Bytes (7 ∷ x ∷ s ∷ z ∷ c ∷ k ∷ []) (restart s)
  marks : (t p z c k : ℕ) → Bytes (8 ∷ t ∷ p ∷ z ∷ c ∷ k ∷ []) (marking t p)

pub kind_again : (z : ℕ) → z ≤ 7 → message_kind (get_or messages z prepare) ≡ z
unfolding messages message_kind
kind_again zero h = refl
kind_again (suc zero) h = refl
kind_again (suc (suc zero)) h = refl
kind_again (suc (suc (suc zero))) h = refl
kind_again (suc (suc (suc (suc zero)))) h = refl
kind_again (suc (suc (suc (suc (suc zero))))) h = refl
kind_again (suc (suc (suc (suc (suc (suc zero)))))) h = refl
kind_again (suc (suc (suc (suc (suc (suc (suc zero))))))) h = refl
kind_again (suc (suc (suc (suc (suc (suc (suc (suc z)))))))) h = absurd (omega (arith, h))

made : (code x y z c k : ℕ) → bytes_in_range code x y z ≡ true → Bytes (code ∷ x ∷ y ∷ z ∷ c ∷ k ∷ []) (event_of code x y z)
unfolding event_of bytes_in_range ranges
made zero x y z c k h = opens x y z c k
made (suc zero) x y z c k h = begins x y z c k
made (suc (suc zero)) x y z c k h =
    subst (λ (n : ℕ). Bytes (2 ∷ x ∷ y ∷ n ∷ c ∷ k ∷ []) (delivery x y (get_or messages z prepare))) (kind_again z (leb-true z 7 (every_at _ h 4)))
    (delivers x y (get_or messages z prepare) c k)
made (suc (suc (suc zero))) x y z c k h = times x y z c k
made (suc (suc (suc (suc zero)))) x y z c k h = forces x y z c k
made (suc (suc (suc (suc (suc zero))))) x y z c k h = discards x y z c k
made (suc (suc (suc (suc (suc (suc zero)))))) x y z c k h = crashes x y z c k
made (suc (suc (suc (suc (suc (suc (suc zero))))))) x y z c k h = restarts x y z c k
made (suc (suc (suc (suc (suc (suc (suc (suc zero)))))))) x y z c k h = marks x y z c k
made (suc (suc (suc (suc (suc (suc (suc (suc (suc n))))))))) x y z c k h =
    absurd (omega (arith, leb-true (suc (suc (suc (suc (suc (suc (suc (suc (suc n))))))))) 8 (every_at _ h 0)))

six : (b : List ℕ) → length b ≡ 6 → b ≡ get_or b 0 0 ∷ get_or b 1 0 ∷ get_or b 2 0 ∷ get_or b 3 0 ∷ get_or b 4 0 ∷ get_or b 5 0 ∷ []
six (u ∷ v ∷ w ∷ x ∷ y ∷ z ∷ []) h = refl
six (u ∷ v ∷ w ∷ x ∷ y ∷ z ∷ a ∷ l) h = absurd (omega (arith, h))
six [] h = absurd (omega (arith, h))
six (u ∷ []) h = absurd (omega (arith, h))
six (u ∷ v ∷ []) h = absurd (omega (arith, h))
six (u ∷ v ∷ w ∷ []) h = absurd (omega (arith, h))
six (u ∷ v ∷ w ∷ x ∷ []) h = absurd (omega (arith, h))
six (u ∷ v ∷ w ∷ x ∷ y ∷ []) h = absurd (omega (arith, h))

pub bytes_of : (b : List ℕ) (x : Parsed) → parse b ≡ some x → Bytes b x.event
unfolding parse event_length
bytes_of b x h =
    let q = only-some _ _ x h in
    subst (λ (e : Event). Bytes b e) (ap (λ (y : Parsed). y.event) q.1)
    (subst (λ (l : List ℕ). Bytes l (event_of (get_or b 0 0) (get_or b 1 0) (get_or b 2 0) (get_or b 3 0))) (sym (six b (eqb-true (length b) 6 (every_at _ q.0 0))))
    (made (get_or b 0 0) (get_or b 1 0) (get_or b 2 0) (get_or b 3 0) (get_or b 4 0) (get_or b 5 0) (every_at _ q.0 1)))

-- its code, and those of x, y and z that it has
abbrev pub fields_of : Event → List ℕ
fields_of (opening t M C) = 0 ∷ t ∷ M ∷ C ∷ []
fields_of (beginning t) = 1 ∷ t ∷ []
fields_of (delivery t p m) = 2 ∷ t ∷ p ∷ message_kind m ∷ []
fields_of (timeout t s) = 3 ∷ t ∷ s ∷ []
fields_of (forcing s) = 4 ∷ []
fields_of (discarding t s) = 5 ∷ t ∷ s ∷ []
fields_of (crash s) = 6 ∷ []
fields_of (restart s) = 7 ∷ []
fields_of (marking t p) = 8 ∷ t ∷ p ∷ []

begin_with : {b : List ℕ} {e : Event} → Bytes b e → take (length (fields_of e)) b ≡ fields_of e
begin_with (opens t M C c k) = refl
begin_with (begins t y z c k) = refl
begin_with (delivers t p m c k) = refl
begin_with (times t s z c k) = refl
begin_with (forces x s z c k) = refl
begin_with (discards t s z c k) = refl
begin_with (crashes x s z c k) = refl
begin_with (restarts x s z c k) = refl
begin_with (marks t p z c k) = refl

-- the bytes of an event begin with them
pub event_bytes : (b : List ℕ) (x : Parsed) → parse b ≡ some x → take (length (fields_of x.event)) b ≡ fields_of x.event
event_bytes b x h = begin_with (bytes_of b x h)
