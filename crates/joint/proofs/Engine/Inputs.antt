-- Begin, a message and a timer: what a site is given, by the number of its kind.
use Prim.Native.Nat.{ℕ, ◌≤◌, ◌<◌}
use mathlib.Core.Path.{◌≡◌, refl, sym, ap, ◌∙◌}
use mathlib.Core.Logic.{◌⊎◌, inl, inr}
use mathlib.Core.Bool.{Bool, true, false, cond, ◌||◌, and-eq-true_iff}
use mathlib.Core.List.{List, [], ◌∷◌, map}
use native.Mathlib.Omega.{arith}
use lib.ListN.{get_or, get_or-map}
use lib.Dec.{eqb}
use borrow.Author.Tests.{ne_eqb, eq-eqb, le-leb, leb-true, eqb-true}
use Rattle.codec.specs.Laws.Tests.{alike, alike_eq, below_at}
use Rattle.site.specs.Step.{Message, prepare, messages, coordinator_of, receiver}
use Rattle.joint.specs.Event.{delivery}
use Rattle.joint.specs.Inside.{input_event, Asks, begins, delivers, times}
use Rattle.joint.specs.Asked.{asked}

-- votes and acks go to the coordinator, the others to the participant
abbrev pub inward : ℕ → Bool
inward kind = eqb kind 1 || eqb kind 2 || eqb kind 5 || eqb kind 6 || eqb kind 7

pub goes_to : (kind p : ℕ) → kind < 256 → receiver (get_or messages kind prepare) p ≡ cond (inward kind) 0 p
unfolding receiver coordinator_of messages
goes_to kind p h =
    let to : List Bool = map inward (0 ∷ 1 ∷ 2 ∷ 3 ∷ 4 ∷ 5 ∷ 6 ∷ 7 ∷ []) in
    let same = alike_eq (get_or to kind false) (inward kind) (below_at 256 (λ k. alike (get_or to k false) (inward k)) tt kind h) in
    sym (get_or-map (λ (m : Message). receiver m p) messages kind prepare)
    ∙ get_or-map (λ (b : Bool). cond b 0 p) to kind false
    ∙ ap (λ (b : Bool). cond b 0 p) same

module _ (t kind p : ℕ) (h : kind ≤ 7) where
  pub message-event : input_event kind t p ≡ delivery t p (get_or messages kind prepare)
  unfolding input_event
  message-event = rw (ne_eqb kind 16 (omega (arith, h)), ne_eqb kind 17 (omega (arith, h))) refl

  -- s is the site that receives it
  pub message_asks : {s : ℕ} → s ≡ receiver (get_or messages kind prepare) p → 1 ≤ p → Asks (input_event kind t p) t s kind p
  message_asks e l = rw (message-event, e) (delivers t kind p h l)

-- ---- an input's fact

either : (a b : Bool) → (a || b) ≡ true → (a ≡ true) ⊎ (b ≡ true)
either true b h = inl refl
either false b h = inr h

pub asked_message : (s kind p : ℕ) → kind ≤ 7 → 1 ≤ p → s ≡ receiver (get_or messages kind prepare) p → asked s kind p ≡ true
asked_message s kind p h l e =
    rw (ne_eqb kind 16 (omega (arith, h)), ne_eqb kind 17 (omega (arith, h)), le-leb kind 7 h, le-leb 1 p l, eq-eqb s _ e) refl

pub asks_of : (t s kind p : ℕ) → asked s kind p ≡ true → Asks (input_event kind t p) t s kind p
unfolding input_event
asks_of t s kind p h =
    elim (either _ _ h) [
      | inl b ↦
          let q = (and-eq-true_iff _ _).0 b in
          let r = (and-eq-true_iff _ _).0 q.1 in
          begun (eqb-true _ _ q.0) (eqb-true _ _ r.0) (eqb-true _ _ r.1)
      | inr b ↦ elim (either _ _ b) [
        | inl d ↦ let q = (and-eq-true_iff _ _).0 d in timed (eqb-true _ _ q.0) (eqb-true _ _ q.1)
        | inr d ↦
            let q = (and-eq-true_iff _ _).0 d in
            let r = (and-eq-true_iff _ _).0 q.1 in
            message_asks t kind p (leb-true _ _ q.0) (eqb-true _ _ r.1) (leb-true _ _ r.0)
      ]
    ]
  where
    begun : kind ≡ 16 → s ≡ 0 → p ≡ 0 → Asks (input_event kind t p) t s kind p
    begun a b e = rw (a, b, e) (begins t)

    timed : kind ≡ 17 → s ≡ p → Asks (input_event kind t p) t s kind p
    timed a b = rw (a, b) (times t p)
