-- Laws of sets that the coordinator's rows need: who is a member of a set that is made.
use Prim.Native.Nat.{ℕ, zero, suc, ◌*◌, ◌/◌, ◌%◌, ◌^◌, ◌<◌, ◌≤◌}
use mathlib.Core.Path.{◌≡◌, refl, sym, ap, ◌∙◌, subst}
use mathlib.Core.Bool.{Bool, true, false, cond, not, ◌&&◌, ◌||◌}
use mathlib.Core.Logic.{◌⊎◌, inl, inr}
use lib.Dec.{T, eqb}
use native.Mathlib.Omega.{arith}
use borrow.Author.Tests.{eq-eqb, eqb-true}
use Rattle.codec.specs.Sets.{without, participants, member, empty, bits, those, both, either, part}
use Rattle.codec.specs.Laws.Tests.{and_left, and_right, true_of, of_true}
use Rattle.codec.specs.Laws.Masks.{those_alike, those-below, those-members, in_those}
use Rattle.codec.specs.Laws.Members.{none_in, numbered, member-participant}
use Rattle.site.specs.Presumption.{Outcome, abort, presumed_abort, presumed_commit, acks}
use Rattle.site.specs.Cohort.{Cohort, remaining, presumption_of, owing}
use Rattle.site.specs.Coordinator.{taking_out}
use Rattle.site.specs.Laws.Remaining.{in_taking_out, remaining-below, remaining-member, remaining-owing}
use Rattle.joint.proofs.Base.Booleans.{and_both, or_left, or_right, or-either, both_ways, is_false, of_false}

-- ---- the set of those that pass a test

-- a member of a set that is made passes the test
pub of_those : (f : ℕ → Bool) (n : ℕ) → T (member (suc n) (those f)) → T (f (suc n))
of_those f n t =
    let e = true_of (member (suc n) (those f)) t in
    let r = numbered (suc n) (member-participant (suc n) (those f) (those-below f) e) in
    of_true (sym (in_those f n (omega (arith, r.1))) ∙ e)

-- and a member of a byte is in the set if it passes the test
pub member-those : (f : ℕ → Bool) (n m : ℕ) → m < 256 → T (member (suc n) m) → member (suc n) (those f) ≡ f (suc n)
member-those f n m h t =
    let r = numbered (suc n) (member-participant (suc n) m h (true_of (member (suc n) m) t)) in
    in_those f n (omega (arith, r.1))

-- ---- no members

pub empty-none : (w p : ℕ) → T (empty w) → T (member p w) → ⊥
unfolding empty
empty-none w p e t = subst T (ap (member p) (eqb-true w 0 (true_of (eqb w 0) e)) ∙ none_in p) t

-- a set without members is 0
pub none-empty : (w : ℕ) → w < 256 → ((n : ℕ) → T (member (suc n) w) → ⊥) → T (empty w)
unfolding empty those bits participants
none-empty w h none =
    of_true (eq-eqb w 0 (sym (those-members w h) ∙ those_alike (λ p. member p w) (λ p. false) (λ i k. is_false (member (suc i) w) (none i))))

-- a set with a member is not empty
pub has_member : (m p : ℕ) → member p m ≡ true → empty m ≡ false
has_member m p e = go (empty m) refl
  where
    go : (b : Bool) → empty m ≡ b → empty m ≡ false
    go true f = absurd (empty-none m p (of_true f) (of_true e))
    go false f = f

-- nobody has the number 0
pub no_zero : (w : ℕ) → T (member 0 w) → ⊥
unfolding member
no_zero w t = subst T (ap (λ (k : ℕ). eqb k 1) even) t
  where
    even : 2 * w / 2 ^ 0 % 2 ≡ 0
    even = omega arith

pub member-without : (p w n m : ℕ) → m < 256 → T (member (suc n) m) → member (suc n) (without p w) ≡ (member (suc n) w && not (eqb (suc n) p))
unfolding without
member-without p w n m h t = member-those (λ q. member q w && not (eqb q p)) n m h t

pub without_byte : (p w : ℕ) → without p w < 256
unfolding without
without_byte p w = those-below (λ q. member q w && not (eqb q p))

-- w without p is a part of what w is a part of
pub without-part : (p w m : ℕ) → ((q : ℕ) → T (member q w) → T (member q m)) → (q : ℕ) → T (member q (without p w)) → T (member q m)
unfolding without
without-part p w m f zero k = absurd (no_zero _ k)
without-part p w m f (suc n) k = f (suc n) (and_left (member (suc n) w) (not (eqb (suc n) p)) (of_those (λ q. member q w && not (eqb q p)) n k))

-- c is a part of m
pub part_within : (c m : ℕ) → part c m ≡ true → (p : ℕ) → T (member p c) → T (member p m)
unfolding part both
part_within c m e zero k = absurd (no_zero c k)
part_within c m e (suc n) k =
    and_right (member (suc n) c) (member (suc n) m) (of_those (λ p. member p c && member p m) n (subst (λ (x : ℕ). T (member (suc n) x)) (sym (eqb-true _ c e)) k))

-- and so is a byte
pub part_byte : (c m : ℕ) → part c m ≡ true → c < 256
unfolding part both
part_byte c m e = subst (λ (n : ℕ). n < 256) (eqb-true _ c e) (those-below _)

-- a member of a byte is one of 1 to 8
number_of_lem : (n m : ℕ) → m < 256 → T (member (suc n) m) → (1 ≤ suc n) × (suc n ≤ 8)
number_of_lem n m h t = numbered (suc n) (member-participant (suc n) m h (true_of (member (suc n) m) t))

-- ---- p is taken out

pub taken-either : (p out n : ℕ) → T (member (suc n) (taking_out p out)) → T (member (suc n) out) ⊎ (suc n ≡ p)
unfolding taking_out either
taken-either p out n k =
    or-either (member (suc n) out) (eqb (suc n) p) inl (λ e. inr (eqb-true (suc n) p (true_of _ e)))
    (subst T (in_taking_out (suc n) p out (number_of_lem n _ (those-below _) k)) k)

module _ (p out n m : ℕ) (h : m < 256) (t : T (member (suc n) m)) where
  now_out : T (member (suc n) out || eqb (suc n) p) → T (member (suc n) (taking_out p out))
  now_out k = subst T (sym (in_taking_out (suc n) p out (number_of_lem n m h t))) k

  pub taken_still : T (member (suc n) out) → T (member (suc n) (taking_out p out))
  taken_still k = now_out (or_left (member (suc n) out) (eqb (suc n) p) k)

  pub taken_now : suc n ≡ p → T (member (suc n) (taking_out p out))
  taken_now e = now_out (or_right (member (suc n) out) (eqb (suc n) p) (of_true (eq-eqb (suc n) p e)))

-- ---- those that owe an ack

module _ (g : Cohort) (o : Outcome) where
  pub member-owing : (n : ℕ) → g.members < 256 → T (member (suc n) g.members) → member (suc n) (owing g o) ≡ acks (presumption_of g (suc n)) o
  unfolding owing
  member-owing n h m =
      member-those (λ p. member p g.members && acks (presumption_of g p) o) n g.members h m ∙ rw (true_of (member (suc n) g.members) m) refl

  pub owing-member : (n : ℕ) → T (member (suc n) (owing g o)) → T (member (suc n) g.members) × T (acks (presumption_of g (suc n)) o)
  unfolding owing
  owing-member n k =
      let both = of_those (λ p. member p g.members && acks (presumption_of g p) o) n k in
      (and_left (member (suc n) g.members) (acks (presumption_of g (suc n)) o) both, and_right (member (suc n) g.members) (acks (presumption_of g (suc n)) o) both)

-- a set that is not empty has a member
pub not_none : (w : ℕ) → w < 256 → T (not (empty w)) → ((n : ℕ) → T (member (suc n) w) → ⊥) → ⊥
not_none w h e none = both_ways (empty w) (none-empty w h none) e

-- if all of its members are members of m, then m is not empty
pub not-empty : (w m : ℕ) → w < 256 → T (not (empty w)) → ((n : ℕ) → T (member (suc n) w) → T (member (suc n) m)) → T (not (empty m))
not-empty w m h e f = go (empty m) refl
  where
    go : (b : Bool) → empty m ≡ b → T (not b)
    go true q = not_none w h e (λ n k. empty-none m (suc n) (of_true q) (f n k))
    go false q = tt

-- who owes an ack of an abort presumes commit
pub owes_abort : (g : Cohort) (n : ℕ) → T (member (suc n) (owing g abort)) → T (member (suc n) g.presume_commit)
unfolding presumption_of acks
owes_abort g n k = go (member (suc n) g.presume_commit) (owing-member g abort n k).1
  where
    go : (b : Bool) → T (acks (cond b presumed_commit presumed_abort) abort) → T b
    go true u = tt
    go false u = absurd (unfold acks in u)

-- participant suc n is a member of the cohort
abbrev pub belongs : Cohort → ℕ → Bool
belongs g n = member (suc n) g.members

-- ---- those that remain

module _ (g : Cohort) (out : ℕ) where
  pub remaining_byte : (remaining g out).members < 256
  remaining_byte = (remaining-below g out).0

  -- one that remains is a member, and was not taken out
  remains : (n : ℕ) → T (member (suc n) (remaining g out).members) → T (member (suc n) g.members && not (member (suc n) out))
  remains n k = subst T (remaining-member g out (suc n) (number_of_lem n _ remaining_byte k)) k

  pub remains_member : (n : ℕ) → T (member (suc n) (remaining g out).members) → T (member (suc n) g.members)
  remains_member n k = and_left (member (suc n) g.members) (not (member (suc n) out)) (remains n k)

  pub remains_in : (n : ℕ) → T (member (suc n) (remaining g out).members) → T (not (member (suc n) out))
  remains_in n k = and_right (member (suc n) g.members) (not (member (suc n) out)) (remains n k)

  -- one that owes an ack among those that remain owes one, and remains
  pub owing-remaining : (o : Outcome) (n : ℕ) → T (member (suc n) (owing (remaining g out) o)) → T (member (suc n) (remaining g out).members) × T (member (suc n) (owing g o))
  owing-remaining o n k =
      let x = (owing-member (remaining g out) o n k).0 in
      (x, and_left (member (suc n) (owing g o)) (not (member (suc n) out)) (subst T (remaining-owing g out o (suc n) (number_of_lem n _ remaining_byte x)) k))

  module _ (byte : g.members < 256) where
    pub member-remaining : (n : ℕ) → member (suc n) (remaining g out).members ≡ (member (suc n) g.members && not (member (suc n) out))
    member-remaining n = go (member (suc n) g.members) refl
      where
        go : (b : Bool) → member (suc n) g.members ≡ b → member (suc n) (remaining g out).members ≡ (b && not (member (suc n) out))
        go true e = remaining-member g out (suc n) (number_of_lem n g.members byte (of_true e)) ∙ ap (λ (c : Bool). c && not (member (suc n) out)) e
        go false e = is_false (member (suc n) (remaining g out).members) (λ k. subst T e (remains_member n k))

    -- a member remains, or was taken out
    pub remains_or_out : (n : ℕ) → T (member (suc n) g.members) → T (member (suc n) (remaining g out).members) ⊎ T (member (suc n) out)
    remains_or_out n m = go (member (suc n) out) refl
      where
        go : (b : Bool) → member (suc n) out ≡ b → T (member (suc n) (remaining g out).members) ⊎ T (member (suc n) out)
        go true e = inr (of_true e)
        go false e = inl (subst T (sym (member-remaining n)) (and_both (member (suc n) g.members) (not (member (suc n) out)) m (of_false e)))

    -- a member that owes an ack owes it among those that remain, or was taken out
    pub owes_or_out : (o : Outcome) (n : ℕ) → T (member (suc n) g.members) → T (acks (presumption_of g (suc n)) o)
        → T (member (suc n) (owing (remaining g out) o)) ⊎ T (member (suc n) out)
    owes_or_out o n m a = go (member (suc n) out) refl
      where
        go : (b : Bool) → member (suc n) out ≡ b → T (member (suc n) (owing (remaining g out) o)) ⊎ T (member (suc n) out)
        go true e = inr (of_true e)
        go false e =
            inl
            (subst T (sym (remaining-owing g out o (suc n) (number_of_lem n g.members byte m)))
            (and_both (member (suc n) (owing g o)) (not (member (suc n) out)) (subst T (sym (member-owing g o n byte m)) a) (of_false e)))
