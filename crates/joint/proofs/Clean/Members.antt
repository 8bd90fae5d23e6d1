-- One member goes on to its next stage, and the others stay where they are.
use Prim.Native.Nat.{ℕ, suc, ◌+◌, ◌*◌, ◌<◌}
use mathlib.Core.Path.{◌≡◌, refl, sym, ap, ◌∙◌, subst}
use mathlib.Core.Logic.{◌≢◌}
use mathlib.Core.Bool.{Bool, true, false, cond, not, ◌&&◌, ◌||◌}
use native.Mathlib.Nat.{mul-one}
use native.Mathlib.Omega.{arith}
use lib.ListN.{length}
use lib.Dec.{T, eqb}
use borrow.Author.Tests.{ne_eqb, eqb-true, eqb-false}
use Rattle.codec.specs.Lists.{select}
use Rattle.codec.specs.Sets.{participants, member, listed}
use Rattle.codec.specs.Laws.Tests.{true_of, below, below_at_2}
use Rattle.codec.specs.Laws.Members.{numbered, member-participant}
use Rattle.site.specs.Presumption.{Outcome}
use Rattle.site.specs.Cohort.{Cohort}
use Rattle.site.specs.Participant.{ParticipantPhase}
use Rattle.joint.specs.State.{Transaction}
use Rattle.joint.proofs.Base.Booleans.{or_not}
use Rattle.joint.proofs.Base.Sums.{sum_change}
use Rattle.joint.proofs.Clean.Stages.{Stage, acks_in, IsMember, Edge, Item, member_owes, members_owe}

-- ---- sums over the members

-- a member stands among them once
once_test : ℕ → ℕ → Bool
once_test m i = not (member (suc i) m) || eqb (length (select (λ s. eqb s (suc i)) (listed m))) 1

once_tests : T (below 256 (λ m. below 8 (once_test m)))
unfolding once_test member listed select participants
once_tests = tt

once_in : (m n : ℕ) → m < 256 → T (member (suc n) m) → length (select (λ s. eqb s (suc n)) (listed m)) ≡ 1
unfolding once_test
once_in m n h k =
    let r = numbered (suc n) (member-participant (suc n) m h (true_of (member (suc n) m) k)) in
    eqb-true _ _ (true_of _ (or_not (not (member (suc n) m)) _ (rw (true_of (member (suc n) m) k) tt) (below_at_2 256 8 once_test once_tests m n h (omega (arith, r.1)))))

-- one of them has paid d
pub members_paid : (i : Item) (g : Cohort) → g.members < 256 → (n : ℕ) → IsMember g n → (f h : ℕ → ParticipantPhase) (d : ℕ)
    → ((q : ℕ) → q ≢ suc n → h q ≡ f q) → d + member_owes i (acks_in g (suc n)) (h (suc n)) ≡ member_owes i (acks_in g (suc n)) (f (suc n))
    → d + members_owe i g h ≡ members_owe i g f
members_paid i g small n m f h d same paid =
    let e =
    sum_change (λ p. member_owes i (acks_in g p) (f p)) (λ p. member_owes i (acks_in g p) (h p)) (suc n) d
    (λ q k. ap (member_owes i (acks_in g q)) (same q k)) paid (listed g.members) in
    ap (λ (k : ℕ). k + members_owe i g h) (sym (mul-one d) ∙ ap (d *◌) (sym (once_in g.members n small m))) ∙ e

-- ---- stages

-- participant p goes on to s
abbrev pub going_on : ℕ → Stage → (ℕ → Stage) → ℕ → Stage
going_on p s stage q = cond (eqb q p) s (stage q)

-- what holds of p at s, and of the others where they are
pub each_on : (P : ℕ → Stage → Type 0) (p : ℕ) (s : Stage) (stage : ℕ → Stage) (q : ℕ) → (q ≡ p → P q s) → (q ≢ p → P q (stage q)) → P q (going_on p s stage q)
each_on P p s stage q here there = go (eqb q p) refl
  where
    go : (b : Bool) → eqb q p ≡ b → P q (cond b s (stage q))
    go true e = here (eqb-true q p e)
    go false e = there (eqb-false q p e)

-- its message of kind k is delivered
abbrev pub delivering : ℕ → ℕ → (ℕ → ℕ → Bool) → ℕ → ℕ → Bool
delivering p k done q j = (eqb q p && eqb j k) || done q j

-- y is x but for participant p
pub record Elsewhere (p : ℕ) (x y : Transaction) : Type 0 where
  pub participant : (q : ℕ) → q ≢ p → y.participant q ≡ x.participant q
  pub marked : (q : ℕ) → q ≢ p → y.marked q ≡ x.marked q
  pub sent : (q k : ℕ) → q ≢ p → y.sent q k ≡ x.sent q k
  pub entered : (q : ℕ) (o : Outcome) → q ≢ p → y.entered q o ≡ x.entered q o

-- the edges of the others
pub other_edge : (p k : ℕ) (done : ℕ → ℕ → Bool) {x y : Transaction} {a : Bool} {s : Stage} → Elsewhere p x y → (q : ℕ) → q ≢ p
    → Edge a s x (done q) q → Edge a s y (delivering p k done q) q
other_edge p k done w q h e =
    record {
      phase = w.participant q h ∙ e.phase;
      unmarked = w.marked q h ∙ e.unmarked;
      sent = λ j. w.sent q j h ∙ e.sent j;
      delivered = λ j. ap (λ (b : Bool). (b && eqb j k) || done q j) (ne_eqb q p h) ∙ e.delivered j;
      entered = λ t. subst T (sym (w.entered q _ h)) (e.entered t);
    }
