-- The cohort that remains where a set is taken out, and the record by which a coordinator restarts. Assumes nothing.
use Rattle.std.specs.Prelude.{◌≡◌, Bool, cond, ◌&&◌, ◌||◌, ℕ, zero, suc, ◌<◌, eqb}
use Rattle.std.proofs.Math.Path.{refl}
use Rattle.std.proofs.Common.{ap, sym, ◌∙◌, arith}
use Rattle.std.proofs.Math.Bool.{true, false, not, and-true, and-false, and-eq-true_iff}
use Rattle.std.proofs.lemmas.Bool.{not-true}
use Rattle.codec.specs.Sets.{member, those, only, either, minus, part}
use Rattle.codec.specs.Laws.Masks.{those-below, in_those}
use Rattle.codec.specs.Laws.Remaining as masks
use Rattle.site.specs.Presumption.{Outcome, acks}
use Rattle.site.specs.Cohort.{Cohort, remaining, presumption_of, owing}
use Rattle.site.specs.Coordinator.{taking_out, leaving, restart_from, coordinator_restart}
use Rattle.site.specs.Laws.Sets.{Numbered}

-- who is in a set that a test makes
pub in_set : (f : ℕ → Bool) (p : ℕ) → Numbered p → member p (those f) ≡ f p
in_set f zero h = absurd (omega (arith, h.0))
in_set f (suc i) h = in_those f i (omega (arith, h.1))

pub in_taking_out : (p q out : ℕ) → Numbered p → member p (taking_out q out) ≡ (member p out || eqb p q)
unfolding taking_out either only
in_taking_out p q out h = in_set (λ p. member p out || member p (only q)) p h ∙ ap (member p out ||◌) (in_set (λ p. eqb p q) p h)

-- ---- the cohort

module _ (g : Cohort) (out : ℕ) where
  pub remaining-below : ((remaining g out).members < 256) × ((remaining g out).presume_commit < 256)
  unfolding remaining minus
  remaining-below = (those-below (λ p. member p g.members && not (member p out)), those-below (λ p. member p g.presume_commit && not (member p out)))

  pub remaining-member : (p : ℕ) → Numbered p → member p (remaining g out).members ≡ (member p g.members && not (member p out))
  unfolding remaining minus
  remaining-member p h = in_set (λ p. member p g.members && not (member p out)) p h

  -- one that remains is not taken out
  pub remaining-stays : (p : ℕ) → Numbered p → member p (remaining g out).members ≡ true → member p out ≡ false
  remaining-stays p h e = not-true (member p out) ((and-eq-true_iff (member p g.members) (not (member p out))).0 (sym (remaining-member p h) ∙ e)).1

  pub remaining_presumes : (p : ℕ) → Numbered p → member p (remaining g out).presume_commit ≡ (member p g.presume_commit && not (member p out))
  unfolding remaining minus
  remaining_presumes p h = in_set (λ p. member p g.presume_commit && not (member p out)) p h

  -- one that is not taken out keeps its presumption
  pub remaining-presumption : (p : ℕ) → Numbered p → member p out ≡ false → presumption_of (remaining g out) p ≡ presumption_of g p
  unfolding presumption_of
  remaining-presumption p h e = rw (remaining_presumes p h, e, and-true (member p g.presume_commit))

  pub remaining-owing : (o : Outcome) (p : ℕ) → Numbered p → member p (owing (remaining g out) o) ≡ (member p (owing g o) && not (member p out))
  unfolding owing
  remaining-owing o p h = in_set _ p h ∙ by (member p out) refl
    where
      by : (b : Bool) → member p out ≡ b
          → (member p (remaining g out).members && acks (presumption_of (remaining g out) p) o) ≡ (member p (owing g o) && not b)
      by true e = rw (remaining-member p h, e, and-false (member p g.members), and-false (member p (owing g o)))
      by false e =
          rw (
            remaining-member p h,
            e,
            remaining-presumption p h e,
            and-true (member p g.members),
            and-true (member p (owing g o)),
            in_set (λ p. member p g.members && acks (presumption_of g p) o) p h,
          )

  -- PC stays a part of the members
  pub remaining-part : part g.presume_commit g.members ≡ true → part (remaining g out).presume_commit (remaining g out).members ≡ true
  unfolding remaining
  remaining-part e = masks.remaining-part g.presume_commit g.members e out

-- where nobody is taken out, all remain
pub remaining-none : (g : Cohort) → g.members < 256 → g.presume_commit < 256 → remaining g 0 ≡ g
unfolding remaining
remaining-none g h c = rw (masks.minus-none g.members h, masks.minus-none g.presume_commit c)

-- ---- restart: the masks that count are those of record 2 where there is one, else those of record 1

pub restart_by : (t : ℕ) (has : ℕ → Bool) (told : ℕ → Cohort) → coordinator_restart t has told ≡ coordinator_restart t has (λ k. told (cond (has 2) 2 1))
unfolding coordinator_restart restart_from
restart_by t has told = by (has 1) (has 2) (has 3) (not (has 4))
  where
    by : (a b c d : Bool)
        → leaving 0 (restart_from t (b && not c) (a && not b && d) told) ≡ leaving 0 (restart_from t (b && not c) (a && not b && d) (λ k. told (cond b 2 1)))
    by true true true d = refl
    by true true false d = refl
    by true false c true = refl
    by true false c false = refl
    by false true true d = refl
    by false true false d = refl
    by false false c d = refl
