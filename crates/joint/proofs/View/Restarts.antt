-- A restart of a site in the view of one transaction: its own row is seen, if it is opened.
use Prim.Native.Nat.{ℕ, zero, suc, ◌<◌}
use mathlib.Core.Path.{◌≡◌, refl, sym, ap, ap₂, ◌∙◌, fun_ext}
use mathlib.Core.Logic.{◌≢◌}
use mathlib.Core.Bool.{Bool, true, false, cond, true≢false}
use mathlib.Core.List.{List, [], ◌∷◌, ◌++◌, append-nil}
use lib.Dec.{eqb}
use borrow.Author.Tests.{eqb-true, eqb-false}
use Rattle.codec.specs.Lists.{select}
use Rattle.site.specs.Step.{Effect, Row}
use Rattle.site.specs.Cohort.{Cohort, presumption_of}
use Rattle.site.specs.Coordinator.{Coordinator, coordinator_restart}
use Rattle.site.specs.Participant.{ParticipantPhase, participant_restart}
use Rattle.joint.specs.State.{Run, opened, holds, recorded_cohort, started, with_coordinator, with_participant}
use Rattle.joint.specs.Plan.{row_plan, transactions, restarting, joined, restart_all}
use Rattle.joint.specs.Run.{is_force}
use Rattle.joint.specs.Safety.{Moment}
use Rattle.joint.proofs.Base.Lists.{Each}
use Rattle.joint.proofs.Base.Plans.{coordinator_restarts, participant_restarts, restart-site}
use Rattle.joint.proofs.View.View.{View, site_view, view, not_opened, is_opened, site-up, view_at, view_settle}
use Rattle.joint.proofs.View.Turn.{view_start, starts, resumes, returns, turn, own, bare}
use Rattle.joint.proofs.View.Acts.{holds_select, recorded_select, effects_of, seen_effects}
use Rattle.joint.proofs.View.Carries.{seen-append, seen_own, seen_other, Shown}
use Rattle.joint.proofs.View.Once.{absent, once, absent_head, select_absent, once_select, once_transaction}
use Rattle.joint.proofs.View.Settles.{coordinator_bare, participant_bare, settle_own, settle_other, start_view}

-- ---- rows of a restart

-- what another transaction appends, enters or sends is not seen, and a row of restart forces nothing
no_forces : (es : List Effect) → Each (λ e. is_force e ≡ false) es → select is_force es ≡ []
unfolding select
no_forces [] h = refl
no_forces (e ∷ es) h = rw h.0 (no_forces es h.1)

module _ (t : ℕ) (r : Run) where
  other_seen : (s u : ℕ) → u ≢ t → seen_effects t (restarting r s u).acts ≡ []
  unfolding restarting row_plan is_force
  other_seen zero u h = seen_other t u h _ ∙ no_forces _ (coordinator_restarts (λ e. is_force e ≡ false) (λ o. refl) (λ m p. refl) _ _ _)
  other_seen (suc n) u h = seen_other t u h _ ∙ no_forces _ (participant_restarts (λ e. is_force e ≡ false) (λ o. refl) (λ m p. refl) _ _ _)

  other_settles : (s u : ℕ) → u ≢ t → (ms : List Moment) (x : Run) → view t ms ((restarting r s u).settle x) ≡ view t ms x
  unfolding restarting row_plan
  other_settles zero u h ms x = settle_other t u _ h ms x
  other_settles (suc n) u h ms x = settle_other t u _ h ms x

  module _ (s : ℕ) where
    absent_seen : (ts : List ℕ) → absent t ts ≡ true → seen_effects t (restart_all r s ts).acts ≡ []
    unfolding restart_all joined
    absent_seen [] h = unfold seen_effects select effects_of in refl
    absent_seen (u ∷ ts) h =
        let q = absent_head t u ts h in
        seen-append t (restarting r s u).acts (restart_all r s ts).acts ∙ rw (other_seen s u q.0) (absent_seen ts q.1)

    absent_settles : (ts : List ℕ) → absent t ts ≡ true → (ms : List Moment) (x : Run)
        → view t ms ((restart_all r s ts).settle x) ≡ view_at s started (view t ms x)
    unfolding restart_all joined
    absent_settles [] h ms x = start_view t s ms x
    absent_settles (u ∷ ts) h ms x =
        let q = absent_head t u ts h in
        absent_settles ts q.1 ms ((restarting r s u).settle x) ∙ ap (view_at s started) (other_settles s u q.0 ms x)

    once_seen : (ts : List ℕ) → once t ts ≡ true → seen_effects t (restart_all r s ts).acts ≡ seen_effects t (restarting r s t).acts
    unfolding once restart_all joined
    once_seen [] h = absurd (true≢false (sym h))
    once_seen (u ∷ ts) h = seen-append t (restarting r s u).acts (restart_all r s ts).acts ∙ go (eqb u t) refl h (once_seen ts)
      where
        go : (b : Bool) → eqb u t ≡ b → cond b (absent t ts) (once t ts) ≡ true
            → (once t ts ≡ true → seen_effects t (restart_all r s ts).acts ≡ seen_effects t (restarting r s t).acts)
            → seen_effects t (restarting r s u).acts ++ seen_effects t (restart_all r s ts).acts ≡ seen_effects t (restarting r s t).acts
        go true q k ih = rw (eqb-true u t q, absent_seen ts k, append-nil)
        go false q k ih = rw (other_seen s u (eqb-false u t q)) (ih k)

    module _ (f : View → View) (its : (ms : List Moment) (x : Run) → view t ms ((restarting r s t).settle x) ≡ f (view t ms x)) where
      once_settles : (ts : List ℕ) → once t ts ≡ true → (ms : List Moment) (x : Run)
          → view t ms ((restart_all r s ts).settle x) ≡ view_at s started (f (view t ms x))
      unfolding once restart_all joined
      once_settles [] h ms x = absurd (true≢false (sym h))
      once_settles (u ∷ ts) h ms x = go (eqb u t) refl h (λ k. once_settles ts k ms ((restarting r s u).settle x))
        where
          go : (b : Bool) → eqb u t ≡ b → cond b (absent t ts) (once t ts) ≡ true
              → (once t ts ≡ true
              → view t ms ((restart_all r s ts).settle ((restarting r s u).settle x)) ≡ view_at s started (f (view t ms ((restarting r s u).settle x))))
              → view t ms ((restart_all r s ts).settle ((restarting r s u).settle x)) ≡ view_at s started (f (view t ms x))
          go true q k ih = rw (eqb-true u t q) (absent_settles ts k ms ((restarting r s t).settle x) ∙ ap (view_at s started) (its ms x))
          go false q k ih = ih k ∙ ap (λ (v : View). view_at s started (f v)) (other_settles s u (eqb-false u t q) ms x)

-- ---- the turn

module _ (t : ℕ) (Out : ℕ → Type 0) (r : Run) where
  -- t is not opened: none of the rows is its own
  absent_shown : (s : ℕ) (ts : List ℕ) → opened r t ≡ false → absent t ts ≡ true → Shown t Out r (restart_all r s ts)
  absent_shown s ts e h =
      record {
        after = view_at s started;
        settles = absent_settles t r s ts h;
        row = λ ms. rw (restart-site r s ts, absent_seen t r s ts h) (bare (turn (starts s (not_opened t ms r e))));
      }

  held : (s : ℕ) (ms : List Moment) → ◌≡◌ {A = ℕ → Bool} (λ k. holds t k ((view t ms r).site s).stable) (λ k. holds t k (r.site s).stable)
  unfolding view site_view
  held s ms = fun_ext (λ k. holds_select t k (r.site s).stable)

  tells : (ms : List Moment) → ◌≡◌ {A = ℕ → Cohort} (λ k. recorded_cohort t k ((view t ms r).site 0).stable) (λ k. recorded_cohort t k (r.site 0).stable)
  unfolding view site_view
  tells ms = fun_ext (λ k. recorded_select t k (r.site 0).stable)

  -- t is opened: one row is its own
  once_shown : (s : ℕ) (ts : List ℕ) → (r.site s).up ≡ false → opened r t ≡ true → once t ts ≡ true → Shown t Out r (restart_all r s ts)
  unfolding restarting row_plan view_start view
  once_shown zero ts d e h =
      let row : Row Coordinator = coordinator_restart t (λ k. holds t k (r.site 0).stable) (λ k. recorded_cohort t k (r.site 0).stable) in
      record {
        after = view_start 0 (with_coordinator 0 row.phase);
        settles = once_settles t r 0 (view_settle (with_coordinator 0 row.phase)) (settle_own t _ (coordinator_bare row.phase)) ts h;
        row = λ ms.
            rw (restart-site r 0 ts, once_seen t r 0 ts h, seen_own t row.effects)
            (own (resumes {row = row} (is_opened t ms r e) (site-up t ms r 0 ∙ d) (ap₂ (coordinator_restart t) (held 0 ms) (tells ms))));
      }
  once_shown (suc n) ts d e h =
      let presumption = presumption_of (r.transaction t).cohort (suc n) in
      let row : Row ParticipantPhase = participant_restart presumption (suc n) (λ k. holds t k (r.site (suc n)).stable) in
      record {
        after = view_start (suc n) (with_participant (suc n) row.phase);
        settles =
            once_settles t r (suc n) (view_settle (with_participant (suc n) row.phase)) (settle_own t _ (participant_bare (suc n) row.phase)) ts h;
        row = λ ms.
            rw (restart-site r (suc n) ts, once_seen t r (suc n) ts h, seen_own t row.effects)
            (own (returns {row = row} n (site-up t ms r (suc n) ∙ d) (ap (participant_restart presumption (suc n)) (held (suc n) ms))));
      }

  pub restart-shown : (s : ℕ) → (r.site s).up ≡ false → (opened r t ≡ true → t < 8) → Shown t Out r (restart_all r s (select (opened r) transactions))
  restart-shown s d h = go (opened r t) refl
    where
      go : (b : Bool) → opened r t ≡ b → Shown t Out r (restart_all r s (select (opened r) transactions))
      go true e = once_shown s _ d e (once_select t (opened r) e transactions (once_transaction t (h e)))
      go false e = absent_shown s _ e (select_absent t (opened r) e transactions)
