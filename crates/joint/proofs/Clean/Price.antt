-- What is owed just after the opening is the bill.
use Prim.Native.Nat.{ℕ, zero, suc, ◌+◌, ◌-◌, ◌*◌, ◌<◌}
use mathlib.Core.Path.{◌≡◌, refl, sym, ap, ◌∙◌}
use mathlib.Core.Bool.{Bool, true, false, cond, not, ◌&&◌, true≢false}
use mathlib.Core.List.{List, [], ◌∷◌, map}
use native.Mathlib.Omega.{arith}
use lib.ListN.{length, length-append}
use lib.Dec.{T, eqb}
use borrow.Author.Tests.{eqb-true}
use Rattle.codec.specs.Lists.{select}
use Rattle.codec.specs.Sets.{participants, member, empty, part, listed}
use Rattle.codec.specs.Laws.Tests.{below_at, true_of}
use Rattle.codec.specs.Laws.Masks.{those-below}
use Rattle.site.specs.Presumption.{commit, presumed_abort, presumed_commit, acks}
use Rattle.site.specs.Cohort.{Cohort, writes_init, presumption_of, owing}
use Rattle.site.specs.Coordinator.{CoordinatorPhase, round}
use Rattle.site.specs.Participant.{ParticipantPhase}
use Rattle.site.specs.Laws.Order.{in_turn_adds, in_turn_those}
use Rattle.joint.specs.Totals.{sum}
use Rattle.joint.specs.Bill.{size, one_if, bill}
use Rattle.joint.proofs.Base.Sums.{sum_alike}
use Rattle.joint.proofs.Safety.Sets.{no_zero, part_within}
use Rattle.joint.proofs.Clean.Stages.{acks_in, IsMember, Item, records, forces, sends, of_bill, member_owes, members_owe, coordinator_owes}

-- ---- members M, those C of them that presume commit, and the others, a

module _ (M C a : ℕ → Bool) (within : (p : ℕ) → T (C p) → T (M p)) (others : (p : ℕ) → a p ≡ not (C p)) where
  -- the sum of one for each and one more for each of the others, and of two for each
  abbrev Counted : List ℕ → List ℕ → List ℕ → Type 0
  Counted ms cs os =
      (sum (map (λ p. 1 + cond (a p) 1 0) ms) ≡ length ms + length os) × (length ms ≡ length cs + length os) × (sum (map (λ _. 2) ms) ≡ 2 * length ms)

  pub counted : (l : List ℕ) → Counted (select M l) (select C l) (select (λ p. M p && a p) l)
  unfolding select sum
  counted [] = (refl, refl, refl)
  counted (p ∷ l) = go (M p) (C p) (a p) refl (within p) (others p) (counted l)
    where
      ms : List ℕ
      ms = select M l

      cs : List ℕ
      cs = select C l

      os : List ℕ
      os = select (λ p. M p && a p) l

      go : (b c d : Bool) → a p ≡ d → (T c → T b) → d ≡ not c → Counted ms cs os → Counted (cond b (p ∷ ms) ms) (cond c (p ∷ cs) cs) (cond (b && d) (p ∷ os) os)
      go true true true q w e h = absurd (true≢false e)
      go true true false q w e h = unfold sum in (rw q (omega (arith, h.0)), omega (arith, h.1), omega (arith, h.2))
      go true false true q w e h = unfold sum in (rw q (omega (arith, h.0)), omega (arith, h.1), omega (arith, h.2))
      go true false false q w e h = absurd (true≢false (sym e))
      go false true d q w e h = absurd (w tt)
      go false false d q w e h = h

-- ---- of a byte

sized : (m : ℕ) → m < 256 → cond (not (empty m)) 1 0 ≡ one_if (size m)
unfolding empty one_if size listed select participants member
sized m h = eqb-true _ _ (true_of _ (below_at 256 (λ m. eqb (cond (not (eqb m 0)) 1 0) (cond (eqb (length (listed m)) 0) 0 1)) tt m h))

module _ (g : Cohort) (few : g.presume_commit < 256) (is_part : part g.presume_commit g.members ≡ true) where
  abbrev is_within : (p : ℕ) → T (member p g.presume_commit) → T (member p g.members)
  is_within = part_within g.presume_commit g.members is_part

  acks_or_not : (p : ℕ) → acks_in g p ≡ not (member p g.presume_commit)
  unfolding presumption_of acks
  acks_or_not p = by (member p g.presume_commit)
    where
      by : (b : Bool) → acks (cond b presumed_commit presumed_abort) commit ≡ not b
      by true = unfold acks in refl
      by false = unfold acks in refl

  all_counted : Counted (λ p. member p g.members) (λ p. member p g.presume_commit) (acks_in g) is_within acks_or_not
      (listed g.members) (listed g.presume_commit) (select (λ p. member p g.members && acks_in g p) participants)
  unfolding listed
  all_counted = counted (λ p. member p g.members) (λ p. member p g.presume_commit) (acks_in g) is_within acks_or_not participants

  -- those that owe an ack are the others
  owing-size : size (owing g commit) ≡ length (select (λ p. member p g.members && acks_in g p) participants)
  unfolding size owing round participants
  owing-size =
      sym (in_turn_adds length length-append 0 (owing g commit))
      ∙ ap length (in_turn_those 0 (λ p. member p g.members && acks_in g p))

  others_are : size (owing g commit) ≡ size g.members - size g.presume_commit
  unfolding size
  others_are = omega (arith, owing-size, all_counted.1)

  -- ---- the bill

  init_costs : cond (writes_init g) 1 0 ≡ one_if (size g.presume_commit)
  init_costs = sized g.presume_commit few

  end_costs : cond (not (empty (owing g commit))) 1 0 ≡ one_if (size g.members - size g.presume_commit)
  end_costs = sized (owing g commit) (unfold owing in those-below _) ∙ ap one_if others_are

  twos : sum (map (λ p. 2) (listed g.members)) ≡ 2 * size g.members
  unfolding size
  twos = all_counted.2

  more : sum (map (λ p. 1 + cond (acks_in g p) 1 0) (listed g.members)) ≡ size g.members + (size g.members - size g.presume_commit)
  unfolding size
  more = all_counted.0 ∙ ap (length (listed g.members) +◌) (sym owing-size ∙ others_are)

  pub opening_owes : (i : Item) → coordinator_owes i g CoordinatorPhase.initial + members_owe i g (λ _. ParticipantPhase.working) ≡ of_bill i (bill g)
  unfolding bill
  opening_owes records = omega (arith, init_costs, end_costs, twos)
  opening_owes forces = omega (arith, init_costs, more)
  opening_owes sends = omega (arith, more)

  -- all members are Working
  pub working_owes : (i : Item) (f : ℕ → ParticipantPhase) → ((n : ℕ) → IsMember g n → f (suc n) ≡ ParticipantPhase.working)
      → coordinator_owes i g CoordinatorPhase.initial + members_owe i g f ≡ of_bill i (bill g)
  unfolding listed
  working_owes i f working =
      ap (coordinator_owes i g CoordinatorPhase.initial +◌) (sum_alike (λ p. member p g.members) _ (λ p. member_owes i (acks_in g p) ParticipantPhase.working) same participants)
      ∙ opening_owes i
    where
      same : (p : ℕ) → T (member p g.members) → member_owes i (acks_in g p) (f p) ≡ member_owes i (acks_in g p) ParticipantPhase.working
      same zero k = absurd (no_zero g.members k)
      same (suc n) k = ap (member_owes i (acks_in g (suc n))) (working n k)
