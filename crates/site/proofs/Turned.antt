-- The loop over the round: what it has taken of a set, and where it ends. Assumes nothing.
use mathlib.Core.Path.{◌≡◌, refl, ap, ap₂, sym, ◌∙◌}
use mathlib.Core.Bool.{Bool, true, false, cond, ◌&&◌, ◌||◌}
use mathlib.Core.Logic.{⊎_elim}
use mathlib.Core.List.{[], ◌∷◌, ◌++◌}
use Prim.Native.Nat.{ℕ, suc, ◌+◌, ◌-◌, ◌%◌, ◌≤◌, ◌<◌}
use native.Mathlib.Omega.{arith}
use lib.ListN.{length, take, drop, get_or, length-append, length-drop, length-take, take-append-drop, drop_of_length-le}
use lib.Seq.{take_all, take-suc, take-append_seam}
use lib.Dec.{eqb, eqb→eq}
use borrow.Author.Tests.{eqb-true, lt-ltb, le-ltb}
use Rattle.codec.specs.Lists.{select, same}
use Rattle.codec.specs.Sets.{participants, member, listed, bits, those, only, both, either, minus}
use Rattle.codec.specs.Laws.Tests.{alike, alike_eq, below, below_at, below_at_2, same_list, true_of, lt_or_le}
use Rattle.codec.specs.Laws.Masks.{those_alike, those-below, those-members, in_those}
use Rattle.codec.specs.Laws.Members.{none_in}
use Rattle.codec.specs.Laws.Listed.{weight}
use Rattle.site.specs.Coordinator.{round, in_turn, ordered}
use Rattle.site.specs.Laws.Lists.{select-append, select-select}
use Rattle.site.specs.Laws.Order.{in_turn_adds, in_turn_those, cut_in_groups}

-- what is no transaction has the round of 0
pub turn_beyond : (t to : ℕ) → 7 < t → in_turn t to ≡ in_turn 0 to
unfolding in_turn round participants
turn_beyond t to h = rw (drop_of_length-le participants {i = t} (omega (arith, h)), take_all t participants (omega (arith, h))) refl

-- none of the first group
pub either_none : (r : ℕ) → r < 256 → either 0 r ≡ r
unfolding either
either_none r h = those_alike (λ p. member p 0 || member p r) (λ p. member p r) (λ i l. rw (none_in (suc i)) refl) ∙ those-members r h

-- the cut is among those that owe; or behind them, and then among the others
module _ (t start first to n r : ℕ) (s : (x : ℕ) → in_turn t x ≡ in_turn start x) (h : r < 256) where
  pub cut_within : n < length (listed (both to first)) → in_turn start r ≡ take n (in_turn start (both to first)) → both r (both to first) ≡ r
      → ordered t first r ≡ take n (ordered t first to)
  cut_within l q p =
      let e = cut_in_groups t first to n r true (lt-ltb n (length (listed (both to first))) l) h p (s r ∙ q ∙ ap (take n) (sym (s (both to first)))) in
      ap (ordered t first) (sym (either_none r h)) ∙ e

  pub cut_behind : length (listed (both to first)) ≤ n → in_turn start r ≡ take (n - length (listed (both to first))) (in_turn start (minus to first)) → both r (minus to first) ≡ r
      → ordered t first (either (both to first) r) ≡ take n (ordered t first to)
  cut_behind l q p =
      cut_in_groups t first to n r false (le-ltb n (length (listed (both to first))) l) h p
      (s r ∙ q ∙ ap (take (n - length (listed (both to first)))) (sym (s (minus to first))))

-- ---- the round one by one

-- the participant at place i, and the set of the first i
abbrev pub place : ℕ → ℕ → ℕ
place s i = (s + i) % 8 + 1

abbrev front : ℕ → ℕ → ℕ
front s i = weight (take i (round s))

place_at : (s i : ℕ) → s < 8 → i < 8 → get_or (round s) i 0 ≡ place s i
unfolding round participants
place_at s i h k = eqb→eq _ _ (below_at_2 8 8 (λ s i. eqb (get_or (round s) i 0) (place s i)) tt s i h k)

-- the set grows by that one
front_more : (s i j : ℕ) → s < 8 → i < 8 → j < 8 → member (suc j) (front s (suc i)) ≡ (member (suc j) (front s i) || eqb (suc j) (place s i))
unfolding round participants member
front_more s i j h k l = alike_eq _ _ (below_at 8 (test s i) (below_at_2 8 8 (λ s i. below 8 (test s i)) tt s i h k) j l)
  where
    test : ℕ → ℕ → ℕ → Bool
    test s i j = alike (member (suc j) (front s (suc i))) (member (suc j) (front s i) || eqb (suc j) (place s i))

-- and in turn it is these
front_listed : (s i : ℕ) → s < 8 → i < 9 → select (λ p. member p (front s i)) (round s) ≡ take i (round s)
unfolding round participants member select same
front_listed s i h k =
    same_list _ _ (true_of _ (below_at_2 8 9 (λ s i. same (select (λ p. member p (front s i)) (round s)) (take i (round s))) tt s i h k))

round-length : (s : ℕ) → length (round s) ≡ 8
unfolding round participants
round-length s = length-append (drop s participants) (take s participants) ∙ simp (length-drop, length-take) (omega arith)

-- ---- the loop: of a set that has more than `most` members the first i of the round are passed, and `left` may still be taken

pub record Walked (start mask most taken left i : ℕ) : Type 0 where
  pub byte : taken < 256
  pub more : most < length (listed mask)
  pub within : i ≤ 8
  pub passed : taken ≡ both (front start i) mask
  pub counted : left + length (in_turn start taken) ≡ most

module _ (start mask : ℕ) (h : start < 8) where
  abbrev chosen : ℕ → Bool
  chosen p = member p mask

  -- the first i of the round, as far as they are of the set
  taken-listed : (taken i : ℕ) → i < 9 → taken ≡ both (front start i) mask → in_turn start taken ≡ select chosen (take i (round start))
  unfolding both
  taken-listed taken i k e =
      ap (in_turn start) e
      ∙ in_turn_those start (λ p. member p (front start i) && member p mask)
      ∙ sym (select-select (λ p. member p (front start i)) chosen (round start))
      ∙ ap (select chosen) (front_listed start i h k)

  pub walk_starts : (most : ℕ) → most < length (listed mask) → Walked start mask most 0 most 0
  unfolding both those bits participants select
  walk_starts most more =
      record {
        byte = omega arith;
        more = more;
        within = omega arith;
        passed = none;
        counted = let e = ap length (taken-listed 0 0 (omega arith) none) in omega (arith, e);
      }
    where
      none : 0 ≡ both (front start 0) mask
      none = those_alike (λ p. false) (λ p. member p 0 && member p mask) (λ i l. rw (none_in (suc i)) refl)

  module _ (most taken left i : ℕ) (w : Walked start mask most taken left i) where
    -- where some may still be taken the round is not over
    pub goes_on : 1 ≤ left → i < 8
    unfolding in_turn
    goes_on l =
        ⊎_elim (λ k. k)
        (λ k.
        let e : i ≡ 8 = omega (arith, k, w.within) in
        let all : in_turn start taken ≡ in_turn start mask =
        taken-listed taken i (omega (arith, e)) w.passed ∙ ap (select chosen) (take_all i (round start) (omega (arith, round-length start, e))) in
        absurd (omega (arith, l, w.counted, w.more, ap length all, in_turn_adds length length-append start mask)))
        (lt_or_le i 8)

    -- the set with the next one, if that is of the set
    abbrev next : ℕ
    next = place start i

    abbrev taking : Bool → ℕ
    taking b = cond b (either taken (only next)) taken

    taking_passed : i < 8 → (b : Bool) → member next mask ≡ b → taking b ≡ both (front start (suc i)) mask
    unfolding both either only
    taking_passed k true e =
        those_alike (λ p. member p taken || member p (only next)) (λ p. member p (front start (suc i)) && member p mask)
        (λ j l.
        ap₂ ◌||◌ (ap (member (suc j)) w.passed ∙ in_those (λ p. member p (front start i) && member p mask) j l) (in_those (λ p. eqb p next) j l)
        ∙ grows (member (suc j) (front start i)) (member (suc j) mask) (eqb (suc j) next) (λ q. ap (λ (p : ℕ). member p mask) (eqb-true (suc j) next q) ∙ e)
        ∙ ap (◌&& member (suc j) mask) (sym (front_more start i j h k l)))
      where
        grows : (f m e : Bool) → (e ≡ true → m ≡ true) → ((f && m) || e) ≡ ((f || e) && m)
        grows true true e q = refl
        grows true false true q = sym (q refl)
        grows true false false q = refl
        grows false true true q = refl
        grows false true false q = refl
        grows false false true q = sym (q refl)
        grows false false false q = refl
    taking_passed k false e =
        w.passed
        ∙ those_alike (λ p. member p (front start i) && member p mask) (λ p. member p (front start (suc i)) && member p mask)
        (λ j l.
        stays (member (suc j) (front start i)) (member (suc j) mask) (eqb (suc j) next) (λ q. ap (λ (p : ℕ). member p mask) (eqb-true (suc j) next q) ∙ e)
        ∙ ap (◌&& member (suc j) mask) (sym (front_more start i j h k l)))
      where
        stays : (f m e : Bool) → (e ≡ true → m ≡ false) → (f && m) ≡ ((f || e) && m)
        stays true m e q = refl
        stays false m true q = sym (q refl)
        stays false m false q = refl

    one_more : i < 8 → (b : Bool) → member next mask ≡ b → length (in_turn start (taking b)) ≡ length (in_turn start taken) + cond b 1 0
    unfolding select
    one_more k b e =
        let grown : take (suc i) (round start) ≡ take i (round start) ++ (next ∷ []) =
        take-suc (round start) i 0 (omega (arith, k, round-length start)) ∙ ap (λ (p : ℕ). take i (round start) ++ (p ∷ [])) (place_at start i h k) in
        ap length (taken-listed (taking b) (suc i) (omega (arith, k)) (taking_passed k b e) ∙ ap (select chosen) grown ∙ select-append chosen (take i (round start)) (next ∷ []))
        ∙ length-append (select chosen (take i (round start))) (select chosen (next ∷ []))
        ∙ ap₂ ◌+◌ (ap length (sym (taken-listed taken i (omega (arith, k)) w.passed))) (rw e (by b))
      where
        by : (b : Bool) → length (cond b (next ∷ []) []) ≡ cond b 1 0
        by true = refl
        by false = refl

    pub walk_on : 1 ≤ left → (b : Bool) → member next mask ≡ b → Walked start mask most (taking b) (cond b (left - 1) left) (i + 1)
    walk_on l b e =
        let k = goes_on l in
        let more : i + 1 ≡ suc i = omega arith in
        record {
          byte = below_256 b;
          more = w.more;
          within = omega (arith, k);
          passed = rw more (taking_passed k b e);
          counted = omega (arith, one_more k b e, w.counted, fewer b);
        }
      where
        below_256 : (b : Bool) → taking b < 256
        below_256 true = unfold either in those-below (λ p. member p taken || member p (only next))
        below_256 false = w.byte

        fewer : (b : Bool) → cond b (left - 1) left + cond b 1 0 ≡ left
        fewer true = omega (arith, l)
        fewer false = omega arith

    -- nothing is left to take
    pub walk_ends : left ≡ 0 → (in_turn start taken ≡ take most (in_turn start mask)) × (both taken mask ≡ taken)
    unfolding in_turn both
    walk_ends z = (sym front_taken, within_mask)
      where
        twice : (f m : Bool) → ((f && m) && m) ≡ (f && m)
        twice true true = refl
        twice true false = refl
        twice false m = refl

        front_taken : take most (in_turn start mask) ≡ in_turn start taken
        front_taken =
            let e = taken-listed taken i (omega (arith, w.within)) w.passed in
            let whole : in_turn start mask ≡ select chosen (take i (round start)) ++ select chosen (drop i (round start)) =
            ap (select chosen) (sym (take-append-drop i (round start))) ∙ select-append chosen (take i (round start)) (drop i (round start)) in
            let count : most ≡ length (select chosen (take i (round start))) = omega (arith, z, w.counted, ap length e) in
            ap (take most) whole
            ∙ ap (λ (n : ℕ). take n (select chosen (take i (round start)) ++ select chosen (drop i (round start)))) count
            ∙ take-append_seam (select chosen (take i (round start))) (select chosen (drop i (round start)))
            ∙ sym e

        within_mask : both taken mask ≡ taken
        within_mask =
            those_alike (λ p. member p taken && member p mask) (λ p. member p taken)
            (λ j l.
            let e = ap (member (suc j)) w.passed ∙ in_those (λ p. member p (front start i) && member p mask) j l in
            ap (◌&& member (suc j) mask) e ∙ twice (member (suc j) (front start i)) (member (suc j) mask) ∙ sym e)
            ∙ those-members taken w.byte
