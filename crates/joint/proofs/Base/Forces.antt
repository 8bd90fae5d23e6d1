-- Forces: how many an event makes, and at which site; and a total that stays at its highest value.
use Prim.Native.Nat.{ℕ, ◌+◌}
use mathlib.Core.Path.{◌≡◌, refl, sym, ap, subst, ◌∙◌}
use mathlib.Core.Bool.{Bool, true, false, cond, and-true}
use mathlib.Core.List.{List, [], ◌∷◌, ◌++◌}
use mathlib.Core.Option.{some, some-injective}
use native.Mathlib.Omega.{arith}
use lib.ListN.{length, take, length-append}
use lib.Dec.{eqb}
use Rattle.codec.specs.Lists.{select, every}
use Rattle.joint.specs.State.{Run, Act, perform}
use Rattle.joint.specs.Event.{Parsed, parse}
use Rattle.joint.specs.Plan.{Plan, plan}
use Rattle.joint.specs.Run.{Result, refuse, carry, cut_short, event, is_force, count, answer_of}
use Rattle.joint.specs.Safety.{Moment, moments, happened}
use Rattle.joint.specs.Totals.{highest, held, is_force_at, forces_at}
use Rattle.site.specs.Laws.Lists.{select-append}
use Rattle.joint.proofs.Base.History.{Accepted, EventCase, refused, whole, cut, event_case}
use Rattle.joint.proofs.Base.Plans.{All, site_of, plan-site}

-- held after each addition, or once for all
pub held-sum : (a b : ℕ) → held (held a + b) ≡ held (a + b)
unfolding held highest
held-sum a b = omega arith

pub forces-append : (s : ℕ) (h k : List Moment) → forces_at s (h ++ k) ≡ forces_at s h + forces_at s k
unfolding forces_at
forces-append s h k = ap length (select-append (is_force_at s) h k) ∙ length-append (select (is_force_at s) h) (select (is_force_at s) k)

-- ---- acts at site z

cond-none : (b : Bool) → ◌≡◌ {A = ℕ} (cond b 0 0) 0
cond-none true = refl
cond-none false = refl

module _ (s z : ℕ) (e : List ℕ) (r : Run) where
  acts-forces : (l : List Act) (x : Run) → forces_at s (moments e r z l x) ≡ cond (eqb z s) (count is_force l) 0
  unfolding forces_at count moments is_force_at every select
  acts-forces l x = go (eqb z s) refl l x
    where
      longer : (b : Bool) (m : Moment) (a : Act) (h : List Moment) (l : List Act) → length h ≡ length l → length (cond b (m ∷ h) h) ≡ length (cond b (a ∷ l) l)
      longer true m a h l q = rw q
      longer false m a h l q = q

      go : (b : Bool) → eqb z s ≡ b → (l : List Act) (x : Run) → forces_at s (moments e r z l x) ≡ cond b (count is_force l) 0
      go b q [] x = sym (cond-none b)
      go true q (a ∷ l) x = rw (q, and-true) (longer (is_force a.effect) _ a _ _ (go true q l (perform z a.transaction a.effect x)))
      go false q (a ∷ l) x = rw q (go false q l (perform z a.transaction a.effect x))

-- ---- an event

-- one that makes none makes none anywhere
pub none-forced : (r : Run) (e : List ℕ) (s : ℕ) → (answer_of (event r e)).forces ≡ 0 → forces_at s (happened r e) ≡ 0
unfolding happened answer_of
none-forced r e s h = let x = event r e in acts-forces s x.site e r x.acts r ∙ ap (λ (n : ℕ). cond (eqb x.site s) n 0) h ∙ cond-none (eqb x.site s)

-- the forces in its answer are those at its site
module _ (r : Run) (e : List ℕ) (p : Parsed) (parsed : parse e ≡ some p) (s : ℕ) where
  abbrev z : ℕ
  z = site_of p.event

  at_site_lem : {x : Parsed} {q : Plan} → Accepted r e x q → q.site ≡ z
  at_site_lem {x} a = subst (All (λ q. q.site ≡ z)) (ap (λ (y : Parsed). plan r y.event) (some-injective p x (sym parsed ∙ a.parsed)) ∙ a.planned) (plan-site r p.event)

  there : {x : Parsed} {q : Plan} → Accepted r e x q → (l : List Act) → forces_at s (moments e r q.site l r) ≡ cond (eqb z s) (count is_force l) 0
  there {q} a l = acts-forces s q.site e r l r ∙ ap (λ (n : ℕ). cond (eqb n s) (count is_force l) 0) (at_site_lem a)

  case_forces : {x : Result} → EventCase r e x → forces_at s (moments e r x.site x.acts r) ≡ cond (eqb z s) (count is_force x.acts) 0
  unfolding refuse carry cut_short
  case_forces (refused n) = unfold forces_at moments select count in sym (cond-none (eqb z s))
  case_forces (whole {p = q} a c) = there a q.acts
  case_forces (cut {p = q} n k a c h) = there a (take n q.acts)

  pub event-forces : forces_at s (happened r e) ≡ cond (eqb (site_of p.event) s) (answer_of (event r e)).forces 0
  unfolding happened answer_of
  event-forces = case_forces (event_case r e)
