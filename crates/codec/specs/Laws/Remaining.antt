-- What remains of masks without those taken out: a record 2 behind Init may hold it. Assumes nothing.
use Rattle.std.specs.Prelude.{◌≡◌, Bool, not, ◌&&◌, ℕ, suc, ◌<◌}
use Rattle.std.proofs.Math.Path.{refl, ap}
use Rattle.std.proofs.Common.{sym, ◌∙◌}
use Rattle.std.proofs.Math.Bool.{true, false, and-true}
use Rattle.std.proofs.lemmas.Bool.{false≢true}
use borrow.Author.Tests.{eq-eqb, eqb-true}
use Rattle.codec.specs.Sets.{member, both, minus, part}
use Rattle.codec.specs.Records.{LogRecord, members_in, presume_commit_in, within_init, agrees}
use Rattle.codec.specs.Laws.Masks.{those_alike, those-members, in_those}
use Rattle.codec.specs.Laws.Members.{none_in}

pub minus-none : (m : ℕ) → m < 256 → minus m 0 ≡ m
unfolding minus
minus-none m h = those_alike _ (λ p. member p m) (λ i hi. rw (none_in (suc i)) (and-true (member (suc i) m))) ∙ those-members m h

pub in_minus : (m t i : ℕ) → i < 8 → member (suc i) (minus m t) ≡ (member (suc i) m && not (member (suc i) t))
unfolding minus
in_minus m t = in_those (λ p. member p m && not (member p t))

-- what remains of a set is a part of it
pub minus-part : (m t : ℕ) → part (minus m t) m ≡ true
unfolding part both minus
minus-part m t = eq-eqb _ _ (those_alike _ _ (λ i h. rw (in_minus m t i h) (again (member (suc i) m) (not (member (suc i) t)))))
  where
    again : (a b : Bool) → ((a && b) && a) ≡ (a && b)
    again true b = and-true b
    again false b = refl

module _ (c m : ℕ) (within : part c m ≡ true) where
  -- each member of c is one of m
  part-member : (i : ℕ) → i < 8 → member (suc i) c ≡ (member (suc i) c && member (suc i) m)
  unfolding part both
  part-member i h = ap (member (suc i)) (sym (eqb-true (both c m) c within)) ∙ in_those (λ p. member p c && member p m) i h

  -- what remains of c is c among what remains of m
  pub among_remaining : (t : ℕ) → both c (minus m t) ≡ minus c t
  unfolding both minus
  among_remaining t = those_alike _ _ (λ i h. rw (in_minus m t i h) (by (member (suc i) c) (member (suc i) m) (not (member (suc i) t)) (part-member i h)))
    where
      by : (c m b : Bool) → c ≡ (c && m) → (c && (m && b)) ≡ (c && b)
      by true true b e = refl
      by true false b e = absurd (false≢true (sym e))
      by false m b e = refl

  -- and a part of it
  pub remaining-part : (t : ℕ) → part (minus c t) (minus m t) ≡ true
  unfolding part both minus
  remaining-part t =
      eq-eqb _ _
      (those_alike _ _
      (λ i h.
      rw (in_minus c t i h, in_minus m t i h) (by (member (suc i) c) (member (suc i) m) (not (member (suc i) t)) (part-member i h))))
    where
      by : (c m b : Bool) → c ≡ (c && m) → ((c && b) && (m && b)) ≡ (c && b)
      by true true true e = refl
      by true true false e = refl
      by true false b e = absurd (false≢true (sym e))
      by false m b e = refl

-- a record 2 with what remains of Init's masks
module _ (x y : LogRecord) (t : ℕ) (within : part (presume_commit_in x) (members_in x) ≡ true)
    (members : members_in y ≡ minus (members_in x) t) (presume-commit : presume_commit_in y ≡ minus (presume_commit_in x) t) where
  pub remaining_within : within_init x y ≡ true
  unfolding within_init
  remaining_within =
      rw (members, presume-commit, minus-part (members_in x) t) (eq-eqb _ _ (sym (among_remaining (presume_commit_in x) (members_in x) within t)))

  pub remaining-agrees : x.kind ≡ 1 → y.kind ≡ 2 → agrees x y ≡ true
  unfolding agrees
  remaining-agrees init commit = rw (remaining_within, init, commit)
