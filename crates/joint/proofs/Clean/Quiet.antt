-- 02's own words: a list without timer, crash, cut, force and discard, and without a mark of t, does not disturb it.
use Prim.Native.Nat.{ℕ}
use mathlib.Core.Path.{◌≡◌, refl, sym, ap, ap₂, ◌∙◌}
use mathlib.Core.Bool.{true, false, ◌||◌, and-false, true≢false}
use mathlib.Core.List.{List, [], ◌∷◌}
use native.Mathlib.Omega.{arith}
use lib.ListN.{take, get_or}
use lib.Seq.{get_or-take}
use lib.Dec.{T, eqb}
use borrow.Author.Tests.{eq-eqb, not-true}
use Rattle.codec.specs.Lists.{any, all, same}
use Rattle.codec.specs.Laws.Tests.{and_left, and_right, true_of, or_none, every_at, same_list}
use Rattle.joint.specs.State.{Run}
use Rattle.joint.specs.Run.{event}
use Rattle.joint.specs.Safety.{steps}
use Rattle.joint.specs.Bill.{loses_power, disturbs, is_quiet}
use Rattle.joint.proofs.Base.Booleans.{is_false}

module _ (t : ℕ) where
  other_code : (c : ℕ) (e : List ℕ) → eqb (get_or e 0 0) c ≡ false → same (take 2 e) (c ∷ t ∷ []) ≡ false
  other_code c e h =
      is_false (same (take 2 e) (c ∷ t ∷ []))
      (λ k.
      let is = ap (λ (l : List ℕ). get_or l 0 0) (same_list (take 2 e) (c ∷ t ∷ []) (true_of _ k)) in
      true≢false (sym (eq-eqb (get_or e 0 0) c (sym (get_or-take 2 e 0 0 (omega arith)) ∙ is)) ∙ h))

  pub quiet_calm : (members : ℕ) (r : Run) (e : List ℕ) → is_quiet t e ≡ true → disturbs t members (r, e) ≡ false
  unfolding is_quiet disturbs loses_power any
  quiet_calm members r e q =
      let none = or_none (eqb (get_or e 0 0) 3) _ (not-true _ (every_at _ q 0)) in
      let rest = or_none (eqb (get_or e 0 0) 4) _ none.1 in
      let last = or_none (eqb (get_or e 0 0) 5) _ rest.1 in
      let crash = or_none (eqb (get_or e 0 0) 6) false last.1 in
      let marks : same (take 2 e) (8 ∷ t ∷ []) ≡ false = not-true _ (every_at _ q 2) in
      let uncut : eqb (get_or e 4 0) 255 ≡ true = every_at _ q 1 in
      rw (other_code 3 e none.0, other_code 5 e last.0, marks, crash.0, uncut, and-false, and-false) refl

  pub quiet_undisturbed : (members : ℕ) (r : Run) (es : List (List ℕ)) → T (all (is_quiet t) es) → any (disturbs t members) (steps r es) ≡ false
  unfolding all any steps
  quiet_undisturbed members r [] k = refl
  quiet_undisturbed members r (e ∷ es) k =
      ap₂ ◌||◌ (quiet_calm members r e (true_of _ (and_left (is_quiet t e) _ k))) (quiet_undisturbed members (event r e).run es (and_right (is_quiet t e) _ k))
