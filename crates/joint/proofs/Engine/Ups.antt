-- Whether the sites that a set names are all up: they are asked one after the other.
use Prim.Native.Nat.{ℕ, zero, suc, ◌+◌, ◌≤◌, ◌<◌}
use mathlib.Core.Path.{◌≡◌, refl, sym, ap, ◌∙◌}
use mathlib.Core.Bool.{Bool, true, false, cond, not, ◌&&◌, ◌||◌, and-false}
use mathlib.Core.List.{List, [], ◌∷◌}
use lib.ListN.{drop_of_length-le, drop, get_or}
use lib.Seq.{drop-cons}
use lib.Dec.{eqb, eqb→eq}
use native.Mathlib.Numerals.{add-one}
use native.Mathlib.Omega.{arith}
use Rattle.codec.specs.Lists.{select, any}
use Rattle.codec.specs.Sets.{participants, member, listed}
use Rattle.codec.specs.Laws.Tests.{below_at}
use Rattle.joint.specs.State.{names}

-- those that a set names, from site b on
abbrev from : ℕ → ℕ → List ℕ
from to zero = 0 ∷ listed to
from to (suc b) = select (λ p. member p to) (drop b participants)

participant_at : (b : ℕ) → b < 8 → drop b participants ≡ suc b ∷ drop (suc b) participants
unfolding participants
participant_at b h =
    let nth : get_or participants b 0 ≡ suc b = eqb→eq _ _ (below_at 8 (λ i. eqb (get_or participants i 0) (i + 1)) tt b h) ∙ omega arith in
    drop-cons participants b 0 h ∙ ap (λ (x : ℕ). x ∷ drop (suc b) participants) nth

-- nobody is behind the eighth
from_past : (to b : ℕ) → 8 < b → from to b ≡ []
unfolding select participants
from_past to zero h = absurd (omega (arith, h))
from_past to (suc b) h = ap (select (λ p. member p to)) (drop_of_length-le participants {i = b} (omega arith))

-- one of those from i on passes f: i itself does, or a later one
any_from : (f : ℕ → Bool) (to i : ℕ) → i ≤ 8 → any f (from to i) ≡ ((names to i && f i) || any f (from to (suc i)))
unfolding any select listed
any_from f to zero h = refl
any_from f to (suc i) h = ap (λ (ps : List ℕ). any f (select (λ p. member p to) ps)) (participant_at i (omega arith)) ∙ go (member (suc i) to)
  where
    go : (b : Bool) → any f (cond b (suc i ∷ from to (suc (suc i))) (from to (suc (suc i)))) ≡ ((b && f (suc i)) || any f (from to (suc (suc i))))
    go true = refl
    go false = refl

-- one passes f among those from i on, where one does among all; those before i do not
pub Reached : (ℕ → Bool) → ℕ → ℕ → Type 0
Reached f to i = any f (from to i) ≡ any f (0 ∷ listed to)

module _ (f : ℕ → Bool) (to : ℕ) where
  pub reach_starts : Reached f to 0
  unfolding Reached
  reach_starts = refl

  module _ (i : ℕ) (w : Reached f to i) where
    pub one_down : i ≤ 8 → names to i ≡ true → f i ≡ true → false ≡ not (any f (0 ∷ listed to))
    unfolding Reached
    one_down h e q = rw (← w, any_from f to i h, e, q) refl

    next : i ≤ 8 → (names to i && f i) ≡ false → Reached f to (i + 1)
    unfolding Reached
    next h e = rw add-one (sym (any_from f to i h ∙ ap (λ (b : Bool). b || any f (from to (suc i))) e) ∙ w)

    pub reach_unnamed : i ≤ 8 → names to i ≡ false → Reached f to (i + 1)
    reach_unnamed h e = next h (rw e refl)

    pub reach_up : i ≤ 8 → f i ≡ false → Reached f to (i + 1)
    reach_up h e = next h (rw (e, and-false) refl)

    pub reach_ends : 8 < i → true ≡ not (any f (0 ∷ listed to))
    unfolding any Reached
    reach_ends h = ap (λ (l : List ℕ). not (any f l)) (sym (from_past to i h)) ∙ ap not w
