-- What the bytes of an event tell: whether it is of transaction t, begins it, delivers a message of it or disturbs it, and whether power goes.
use Prim.Native.Nat.{ℕ}
use mathlib.Core.Path.{◌≡◌, refl, ap, ap₂, ◌∙◌}
use mathlib.Core.Bool.{Bool, true, false, not, ◌&&◌, ◌||◌, and-true, or-false}
use mathlib.Core.List.{List, [], ◌∷◌}
use mathlib.Core.Option.{some, none-ne-some}
use lib.ListN.{get_or, take}
use lib.Dec.{eqb}
use Rattle.codec.specs.Lists.{any, same}
use Rattle.site.specs.Step.{message_kind}
use Rattle.joint.specs.Event.{Event, opening, beginning, delivery, timeout, forcing, discarding, crash, restart, marking, cut_at, cut_of, Parsed, parse}
use Rattle.joint.specs.Bill.{is_own, loses_power}
use Rattle.joint.proofs.Base.Booleans.{eqb-sym}
use Rattle.joint.proofs.Base.Ranges.{only-some}
use Rattle.joint.proofs.Base.Bytes.{Bytes, opens, begins, delivers, times, forces, discards, crashes, restarts, marks}
use Rattle.joint.proofs.Clean.Others.{concerns}

module _ (t : ℕ) where
  pub own_bytes : {b : List ℕ} {e : Event} → Bytes b e → is_own t b ≡ concerns t e
  unfolding is_own any same
  own_bytes (opens u M C c k) = simp (and-true, or-false)
  own_bytes (begins u y z c k) = simp (and-true, or-false)
  own_bytes (delivers u p m c k) = simp (and-true, or-false)
  own_bytes (times u s z c k) = simp (and-true, or-false)
  own_bytes (forces x s z c k) = refl
  own_bytes (discards u s z c k) = simp (and-true, or-false)
  own_bytes (crashes x s z c k) = refl
  own_bytes (restarts x s z c k) = refl
  own_bytes (marks u p z c k) = simp (and-true, or-false)

  -- it begins t
  abbrev pub begins_it : Event → Bool
  begins_it (opening u M C) = false
  begins_it (beginning u) = eqb u t
  begins_it (delivery u p m) = false
  begins_it (timeout u s) = false
  begins_it (forcing s) = false
  begins_it (discarding u s) = false
  begins_it (crash s) = false
  begins_it (restart s) = false
  begins_it (marking u p) = false

  pub begin_bytes : {b : List ℕ} {e : Event} → Bytes b e → same (take 2 b) (1 ∷ t ∷ []) ≡ begins_it e
  unfolding same
  begin_bytes (opens u M C c k) = refl
  begin_bytes (begins u y z c k) = simp and-true
  begin_bytes (delivers u p m c k) = refl
  begin_bytes (times u s z c k) = refl
  begin_bytes (forces x s z c k) = refl
  begin_bytes (discards u s z c k) = refl
  begin_bytes (crashes x s z c k) = refl
  begin_bytes (restarts x s z c k) = refl
  begin_bytes (marks u p z c k) = refl

  -- it delivers q's message of kind j
  abbrev pub delivers_it : ℕ → ℕ → Event → Bool
  delivers_it q j (opening u M C) = false
  delivers_it q j (beginning u) = false
  delivers_it q j (delivery u p m) = eqb u t && (eqb q p && eqb j (message_kind m))
  delivers_it q j (timeout u s) = false
  delivers_it q j (forcing s) = false
  delivers_it q j (discarding u s) = false
  delivers_it q j (crash s) = false
  delivers_it q j (restart s) = false
  delivers_it q j (marking u p) = false

  pub deliver_bytes : (q j : ℕ) {b : List ℕ} {e : Event} → Bytes b e → same (take 4 b) (2 ∷ t ∷ q ∷ j ∷ []) ≡ delivers_it q j e
  unfolding same
  deliver_bytes q j (opens u M C c k) = refl
  deliver_bytes q j (begins u y z c k) = refl
  deliver_bytes q j (delivers u p m c k) = simp and-true (ap₂ (λ (a b : Bool). eqb u t && (a && b)) (eqb-sym p q) (eqb-sym (message_kind m) j))
  deliver_bytes q j (times u s z c k) = refl
  deliver_bytes q j (forces x s z c k) = refl
  deliver_bytes q j (discards u s z c k) = refl
  deliver_bytes q j (crashes x s z c k) = refl
  deliver_bytes q j (restarts x s z c k) = refl
  deliver_bytes q j (marks u p z c k) = refl

  -- an event of another transaction, or of none, neither begins t nor delivers a message of it
  pub other_begins : (e : Event) → concerns t e ≡ false → begins_it e ≡ false
  other_begins (opening u M C) h = refl
  other_begins (beginning u) h = h
  other_begins (delivery u p m) h = refl
  other_begins (timeout u s) h = refl
  other_begins (forcing s) h = refl
  other_begins (discarding u s) h = refl
  other_begins (crash s) h = refl
  other_begins (restart s) h = refl
  other_begins (marking u p) h = refl

  pub other_delivers : (q j : ℕ) (e : Event) → concerns t e ≡ false → delivers_it q j e ≡ false
  other_delivers q j (opening u M C) h = refl
  other_delivers q j (beginning u) h = refl
  other_delivers q j (delivery u p m) h = rw h refl
  other_delivers q j (timeout u s) h = refl
  other_delivers q j (forcing s) h = refl
  other_delivers q j (discarding u s) h = refl
  other_delivers q j (crash s) h = refl
  other_delivers q j (restart s) h = refl
  other_delivers q j (marking u p) h = refl

  -- its timer, a discard or a mark of it
  abbrev pub strays : Event → Bool
  strays (opening u M C) = false
  strays (beginning u) = false
  strays (delivery u p m) = false
  strays (timeout u s) = eqb u t
  strays (forcing s) = false
  strays (discarding u s) = eqb u t
  strays (crash s) = false
  strays (restart s) = false
  strays (marking u p) = eqb u t

  pub stray_bytes : {b : List ℕ} {e : Event} → Bytes b e → any (λ code. same (take 2 b) (code ∷ t ∷ [])) (3 ∷ 5 ∷ 8 ∷ []) ≡ strays e
  unfolding any same
  stray_bytes (opens u M C c k) = refl
  stray_bytes (begins u y z c k) = refl
  stray_bytes (delivers u p m c k) = refl
  stray_bytes (times u s z c k) = simp (and-true, or-false)
  stray_bytes (forces x s z c k) = refl
  stray_bytes (discards u s z c k) = simp (and-true, or-false)
  stray_bytes (crashes x s z c k) = refl
  stray_bytes (restarts x s z c k) = refl
  stray_bytes (marks u p z c k) = simp (and-true, or-false)

-- an event that is cut, or a crash
pub cut_bytes : (b : List ℕ) (x : Parsed) → parse b ≡ some x → (c : ℕ × ℕ) → x.cut ≡ some c → loses_power b ≡ true
unfolding parse cut_of loses_power
cut_bytes b x h c e = by (eqb (get_or b 0 0) 6) (eqb (get_or b 4 0) 255) (ap (λ (y : Parsed). y.cut) (only-some _ _ x h).1 ∙ e)
  where
    by : (k w : Bool) → cut_at k w (get_or b 4 0) (get_or b 5 0) ≡ some c → (k || not w) ≡ true
    by true w q = refl
    by false true q = absurd (none-ne-some c (unfold cut_at in q))
    by false false q = refl
