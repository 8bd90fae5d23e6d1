-- Rows, and events without effects, in the view of one transaction; whole or cut.
use Prim.Native.Nat.{ℕ, zero, suc}
use mathlib.Core.Path.{◌≡◌, refl, sym, subst, ◌∙◌}
use mathlib.Core.Logic.{◌≢◌}
use mathlib.Core.Bool.{Bool, true, false}
use mathlib.Core.List.{List}
use lib.Dec.{eqb}
use borrow.Author.Tests.{eqb-true, eqb-false}
use Rattle.codec.specs.Lists.{select}
use Rattle.codec.specs.Laws.Tests.{of_true}
use Rattle.site.specs.Step.{Input}
use Rattle.joint.specs.State.{Run, opened, takes_part, with_coordinator, with_participant}
use Rattle.joint.specs.Plan.{settling, row_plan, step}
use Rattle.joint.specs.Safety.{Moment}
use Rattle.joint.proofs.Base.Plans.{All, all_planned, all_step}
use Rattle.joint.proofs.View.View.{View, view, is_opened, site-up, view_settle}
use Rattle.joint.proofs.View.Turn.{Given, Takes, Own, coordinates, participates, Turns, own, others, bare}
use Rattle.joint.proofs.View.Acts.{effects_of, seen_effects}
use Rattle.joint.proofs.View.Carries.{seen_own, seen_other, all_forces, Shown}
use Rattle.joint.proofs.View.Settles.{coordinator_bare, participant_bare, settle_own, settle_other}

-- t itself, or another transaction
pub own_or_other : (t : ℕ) (P : ℕ → Type 0) → P t → ((u : ℕ) → u ≢ t → P u) → (u : ℕ) → P u
own_or_other t P same other u = go (eqb u t) refl
  where
    go : (b : Bool) → eqb u t ≡ b → P u
    go true e = subst P (sym (eqb-true u t e)) same
    go false e = other u (eqb-false u t e)

module _ (t : ℕ) (Out : ℕ → Type 0) (r : Run) where
  -- ---- an event without effects

  pub bare_shown : (s : ℕ) (settle : Run → Run) (f : View → View)
      → ((ms : List Moment) (x : Run) → view t ms (settle x) ≡ f (view t ms x))
      → ((ms : List Moment) → Turns t Out (view t ms r) (f (view t ms r))) → Shown t Out r (settling s settle)
  unfolding seen_effects effects_of select
  bare_shown s settle f settles turns =
      record {
        after = f;
        settles = settles;
        row = λ ms. bare (turns ms);
      }

  -- ---- a row of another transaction

  pub step_other : (s u : ℕ) (i : Input) → u ≢ t → All (Shown t Out r) (step r u s i)
  unfolding row_plan
  step_other s u i h =
      all_step (Shown t Out r) r u s i
      (λ X g row.
      record {
        after = λ v. v;
        settles = settle_other t u (g row.phase) h;
        row = λ ms. rw (seen_other t u h row.effects) (others (all_forces row.effects));
      })

  -- ---- its own

  module _ (i : Input) (ready : opened r t ≡ true) (given : (ms : List Moment) → Given (view t ms r) i)
      (takes : (ms : List Moment) → Takes Out (view t ms r) i) where
    pub step_own : (s : ℕ) → takes_part (r.transaction t) s ≡ true → (r.site s).up ≡ true → ((n : ℕ) → s ≡ suc n → Own (suc n) i) → All (Shown t Out r) (step r t s i)
    unfolding step takes_part row_plan view
    step_own zero m up its =
        all_planned (Shown t Out r) 0 t (with_coordinator 0) _
        (λ row e.
        record {
          after = view_settle (with_coordinator 0 row.phase);
          settles = settle_own t _ (coordinator_bare row.phase);
          row = λ ms. rw (seen_own t row.effects) (own (coordinates {row = row} i (is_opened t ms r ready) (site-up t ms r 0 ∙ up) (given ms) (takes ms) e));
        })
    step_own (suc n) m up its =
        all_planned (Shown t Out r) (suc n) t (with_participant (suc n)) _
        (λ row e.
        record {
          after = view_settle (with_participant (suc n) row.phase);
          settles = settle_own t _ (participant_bare (suc n) row.phase);
          row = λ ms. rw (seen_own t row.effects) (own (participates {row = row} n i (of_true m) (site-up t ms r (suc n) ∙ up) (given ms) (its n refl) e));
        })
