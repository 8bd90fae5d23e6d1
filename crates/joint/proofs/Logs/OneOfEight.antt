-- Every act of an event is of one of eight transactions, and so is every record that it appends.
use Prim.Native.Nat.{ℕ, zero, suc, ◌<◌}
use mathlib.Core.Path.{◌≡◌}
use mathlib.Core.Bool.{true}
use mathlib.Core.List.{List, [], ◌∷◌}
use native.Mathlib.Omega.{arith}
use Rattle.codec.specs.Lists.{first}
use Rattle.codec.specs.Laws.Tests.{true_of}
use Rattle.codec.specs.Records.{LogRecord}
use Rattle.site.specs.Step.{receiver, Input, begin, timer, received, Effect, append, force, enter, send}
use Rattle.joint.specs.State.{Run, Site, Act, opened, update, at_site, at_transaction, appended, forced, perform, perform_all}
use Rattle.joint.specs.Event.{Event, opening, beginning, delivery, timeout, forcing, discarding, crash, restart, marking}
use Rattle.joint.specs.Refusals.{refusals}
use Rattle.joint.specs.Plan.{Plan, acting, row_plan, step, restarting, joined, restart_all, transactions, plan}
use Rattle.joint.proofs.Base.Lists.{Each, each_append, each_chosen}
use Rattle.joint.proofs.Base.Updates.{update-point}
use Rattle.joint.proofs.Base.Plans.{All, all_step, all_or, all_only}
use Rattle.joint.proofs.View.Events.{was_opened}

-- ---- the acts of a plan

abbrev pub Numbered : Plan → Type 0
Numbered p = Each (λ (a : Act). a.transaction < 8) p.acts

acting_numbered : (t : ℕ) → t < 8 → (es : List Effect) → Each (λ (a : Act). a.transaction < 8) (acting t es)
unfolding acting
acting_numbered t h [] = tt
acting_numbered t h (e ∷ es) = (h, acting_numbered t h es)

module _ (r : Run) (small : (t : ℕ) → opened r t ≡ true → t < 8) where
  step_numbered : (t s : ℕ) (i : Input) → opened r t ≡ true → All Numbered (step r t s i)
  unfolding row_plan
  step_numbered t s i o = all_step Numbered r t s i (λ X g x. acting_numbered t (small t o) x.effects)

  restart_numbered : (s : ℕ) (ts : List ℕ) → Each (λ t. opened r t ≡ true) ts → Numbered (restart_all r s ts)
  unfolding restart_all joined
  restart_numbered s [] h = tt
  restart_numbered s (t ∷ ts) h = each_append _ (restarting r s t).acts (restart_all r s ts).acts (one s) (restart_numbered s ts h.1)
    where
      one : (s : ℕ) → Numbered (restarting r s t)
      one zero = unfold restarting row_plan in acting_numbered t (small t h.0) _
      one (suc n) = unfold restarting row_plan in acting_numbered t (small t h.0) _

  pub plan_numbered : (e : Event) → first (refusals r e) ≡ 0 → All Numbered (plan r e)
  unfolding refusals plan
  plan_numbered (opening t M C) h = tt
  plan_numbered (beginning t) h = step_numbered t 0 begin (was_opened r t _ h)
  plan_numbered (delivery t p m) h = all_or Numbered (receiver m p) _ tt (step_numbered t (receiver m p) (received m p) (was_opened r t _ h))
  plan_numbered (timeout t s) h = step_numbered t s timer (was_opened r t _ h)
  plan_numbered (forcing s) h = unfold acting in (omega arith, tt)
  plan_numbered (discarding t s) h = all_only Numbered _ _ (λ _. tt)
  plan_numbered (crash s) h = tt
  plan_numbered (restart s) h = restart_numbered s _ (each_chosen (λ t. opened r t ≡ true) (opened r) (λ t k. true_of _ k) transactions)
  plan_numbered (marking t p) h = all_only Numbered _ _ (λ _. tt)

-- ---- the unforced records after them

abbrev Low : List LogRecord → Type 0
Low = Each (λ (x : LogRecord). x.transaction < 8)

module _ (s : ℕ) where
  performed_one : (a : Act) → a.transaction < 8 → (x : Run) → ((z : ℕ) → Low (x.site z).unforced) → (z : ℕ) → Low ((perform s a.transaction a.effect x).site z).unforced
  performed_one a low x h z = go a.effect
    where
      changed : (f : Site → Site) → ((y : Site) → Low y.unforced → Low (f y).unforced) → Low (update s f x.site z).unforced
      changed f keeps = update-point (λ (y : Site). Low y.unforced) f keeps s x.site z (h z)

      go : (e : Effect) → Low ((perform s a.transaction e x).site z).unforced
      go (append k fs) =
          let k : LogRecord = record { kind = k; transaction = a.transaction; fields = fs } in
          unfold perform at_site appended in changed (appended k) (λ y l. each_append (λ (x : LogRecord). x.transaction < 8) y.unforced (k ∷ []) l (low, tt))
      go force = unfold perform at_site forced in changed forced (λ y l. tt)
      go (enter o) = unfold perform at_transaction in h z
      go (send m p) = unfold perform at_transaction in h z

  pub performed_numbered : (l : List Act) (x : Run) → Each (λ (a : Act). a.transaction < 8) l → ((z : ℕ) → Low (x.site z).unforced) → (z : ℕ) → Low ((perform_all s l x).site z).unforced
  unfolding perform_all
  performed_numbered [] x low h = h
  performed_numbered (a ∷ l) x low h = performed_numbered l (perform s a.transaction a.effect x) low.1 (performed_one a low.0 x h)
