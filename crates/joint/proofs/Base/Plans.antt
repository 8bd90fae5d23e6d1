-- Plans: the refusals that did not strike, what holds of a plan by the way it is made, where it happens, and the rows of a restart.
use Prim.Native.Nat.{ℕ, zero, suc}
use mathlib.Core.Path.{◌≡◌, refl}
use mathlib.Core.Bool.{Bool, true, false}
use mathlib.Core.List.{List, [], ◌∷◌, map}
use mathlib.Core.Option.{Option, none, some}
use native.Mathlib.Omega.{arith}
use borrow.Author.Tests.{not-false}
use Rattle.codec.specs.Lists.{first, only_if}
use Rattle.site.specs.Presumption.{Outcome, commit, abort, Presumption}
use Rattle.site.specs.Step.{Message, vote_yes, tell, receiver, Input, begin, timer, received, Effect, enter, send, Row, given}
use Rattle.site.specs.Cohort.{Cohort}
use Rattle.site.specs.Coordinator.{in_order, tell_all, resuming, leaving, restart_from, coordinator_restart}
use Rattle.site.specs.Participant.{voting, restart_with, participant_restart}
use Rattle.joint.specs.State.{Run, Transaction}
use Rattle.joint.specs.Event.{Event, opening, beginning, delivery, timeout, forcing, discarding, crash, restart, marking}
use Rattle.joint.specs.Refusals.{is_down}
use Rattle.joint.specs.Plan.{Plan, settling, row_plan, planned, step, or_nothing, restarting, joined, restart_all, plan}
use Rattle.joint.proofs.Base.Lists.{Each}

-- ---- refusals

-- a refusal that did not strike, and those behind it
pub not_struck : (n : ℕ) (b : Bool) (l : List (ℕ × Bool)) → first ((suc n, b) ∷ l) ≡ 0 → (b ≡ false) × (first l ≡ 0)
unfolding first
not_struck n true l e = absurd (omega arith)
not_struck n false l e = (refl, e)

pub is_up_lem : (r : Run) (s : ℕ) (l : List (ℕ × Bool)) → first ((5, is_down r s) ∷ l) ≡ 0 → (r.site s).up ≡ true
unfolding is_down
is_up_lem r s l e = not-false _ (not_struck 4 _ l e).0

-- ---- what holds of a plan, if there is one

abbrev pub All : (Plan → Type 0) → Option Plan → Type 0
All P none = Unit {0}
All P (some p) = P p

module _ (P : Plan → Type 0) where
  pub all_planned : {X : Type 0} (s t : ℕ) (g : X → Transaction → Transaction) (o : Option (Row X)) → ((x : Row X) → o ≡ some x → P (row_plan s t g x))
      → All P (planned s t g o)
  unfolding planned
  all_planned s t g none h = tt
  all_planned s t g (some x) h = h x refl

  pub all_step : (r : Run) (t s : ℕ) (i : Input) → ((X : Type 0) (g : X → Transaction → Transaction) (x : Row X) → P (row_plan s t g x)) → All P (step r t s i)
  unfolding step
  all_step r t zero i h = all_planned 0 t _ _ (λ x e. h _ _ x)
  all_step r t (suc n) i h = all_planned (suc n) t _ _ (λ x e. h _ _ x)

  pub all_or : (s : ℕ) (o : Option Plan) → P (settling s (λ r. r)) → All P o → P (or_nothing s o)
  unfolding or_nothing
  all_or s none h k = h
  all_or s (some p) h k = k

  pub all_only : (b : Bool) (p : Plan) → (b ≡ true → P p) → All P (only_if b p)
  unfolding only_if
  all_only true p h = h refl
  all_only false p h = tt

-- ---- where an event happens

abbrev pub site_of : Event → ℕ
site_of (opening t M C) = 0
site_of (beginning t) = 0
site_of (delivery t p m) = receiver m p
site_of (timeout t s) = s
site_of (forcing s) = s
site_of (discarding t s) = s
site_of (crash s) = s
site_of (restart s) = s
site_of (marking t p) = p

pub restart-site : (r : Run) (s : ℕ) (ts : List ℕ) → (restart_all r s ts).site ≡ s
unfolding restart_all joined restarting row_plan
restart-site r s [] = refl
restart-site r zero (u ∷ ts) = refl
restart-site r (suc n) (u ∷ ts) = refl

pub plan-site : (r : Run) (e : Event) → All (λ p. p.site ≡ site_of e) (plan r e)
unfolding plan row_plan
plan-site r (opening t M C) = refl
plan-site r (beginning t) = all_step (λ p. p.site ≡ 0) r t 0 begin (λ X g x. refl)
plan-site r (delivery t p m) =
    all_or (λ q. q.site ≡ receiver m p) (receiver m p) _ refl (all_step (λ q. q.site ≡ receiver m p) r t (receiver m p) (received m p) (λ X g x. refl))
plan-site r (timeout t s) = all_step (λ p. p.site ≡ s) r t s timer (λ X g x. refl)
plan-site r (forcing s) = refl
plan-site r (discarding t s) = all_only (λ p. p.site ≡ s) _ _ (λ _. refl)
plan-site r (crash s) = refl
plan-site r (restart s) = restart-site r s _
plan-site r (marking t p) = all_only (λ q. q.site ≡ p) _ _ (λ _. refl)

-- ---- the rows of a restart: an outcome is entered, and messages are sent

module _ (P : Effect → Type 0) (entries : (o : Outcome) → P (enter o)) (sends : (m : Message) (p : ℕ) → P (send m p)) where
  each-send : (m : Message) (l : List ℕ) → Each P (map (send m) l)
  each-send m [] = tt
  each-send m (p ∷ l) = (sends m p, each-send m l)

  each_told : (b : Bool) (t : ℕ) (g : Cohort) (o : Outcome) (to : ℕ) → Each P (given b (tell_all t g o to))
  unfolding given tell_all
  each_told true t g o to = each-send (tell o) (in_order t g o to)
  each_told false t g o to = tt

  from_restarts : (t : ℕ) (c i : Bool) (told : ℕ → Cohort) → Each P (restart_from t c i told).effects
  unfolding restart_from resuming
  from_restarts t true i told = (entries commit, each_told _ t (told 2) commit (told 2).members)
  from_restarts t false true told = (entries abort, each_told _ t (told 1) abort (told 1).members)
  from_restarts t false false told = tt

  with_restarts : (c : Presumption) (p : ℕ) (a b v : Bool) → Each P (restart_with c p a b v).effects
  unfolding restart_with voting
  with_restarts c p true b v = (entries commit, tt)
  with_restarts c p false true v = (entries abort, tt)
  with_restarts c p false false true = (sends vote_yes p, tt)
  with_restarts c p false false false = tt

  pub coordinator_restarts : (t : ℕ) (f : ℕ → Bool) (told : ℕ → Cohort) → Each P (coordinator_restart t f told).effects
  unfolding coordinator_restart leaving
  coordinator_restarts t f told = from_restarts t _ _ told

  pub participant_restarts : (c : Presumption) (p : ℕ) (f : ℕ → Bool) → Each P (participant_restart c p f).effects
  unfolding participant_restart
  participant_restarts c p f = with_restarts c p _ _ _
