-- An event that is not of transaction t leaves of it all that its bill reads; M are its members.
use Prim.Native.Nat.{ℕ, zero, suc}
use mathlib.Core.Path.{◌≡◌, refl, sym, ap, ◌∙◌, subst}
use mathlib.Core.Logic.{◌≢◌, ◌⊎◌, inl, inr}
use mathlib.Core.Bool.{Bool, true, false, true≢false}
use mathlib.Core.List.{List, [], ◌∷◌}
use native.Mathlib.Omega.{arith}
use lib.ListN.{take}
use lib.Dec.{T, eqb}
use borrow.Author.Tests.{eqb-true, eqb-false}
use Rattle.codec.specs.Lists.{first}
use Rattle.codec.specs.Sets.{member}
use Rattle.site.specs.Cohort.{presumption_of}
use Rattle.site.specs.Participant.{ParticipantPhase, restart_with, participant_restart}
use Rattle.site.specs.Step.{receiver, begin, timer, received, Effect, append, force, enter, send, Row}
use Rattle.joint.specs.State.{Run, Site, Transaction, Act, names, holds, at_site, at_transaction, appended, forced, started, stopped, with_coordinator, with_participant, with_marked, with_sent, with_entered, forgotten, down, perform, perform_all}
use Rattle.joint.specs.Event.{Event, opening, beginning, delivery, timeout, forcing, discarding, crash, restart, marking}
use Rattle.joint.specs.Refusals.{refusals}
use Rattle.joint.specs.Plan.{Plan, acting, row_plan, opened_as, trimmed, forgotten_unless, discard, restarting, joined, restart_all, plan}
use Rattle.joint.specs.Run.{is_force}
use Rattle.joint.proofs.Base.Booleans.{is_false}
use Rattle.joint.proofs.Base.Lists.{Each, each_append, each_take}
use Rattle.joint.proofs.Base.Updates.{update_other, update-keeps}
use Rattle.joint.proofs.Base.Plans.{not_struck, All, all_step, all_or, all_only}

-- an event of t
abbrev pub concerns : ℕ → Event → Bool
concerns t (opening u M C) = eqb u t
concerns t (beginning u) = eqb u t
concerns t (delivery u p m) = eqb u t
concerns t (timeout u s) = eqb u t
concerns t (forcing s) = false
concerns t (discarding u s) = eqb u t
concerns t (crash s) = false
concerns t (restart s) = false
concerns t (marking u p) = eqb u t

module _ (t M : ℕ) where
  -- of the participants the members, of the sites the coordinator and the members
  pub record Kept (x y : Run) : Type 0 where
    pub cohort : (y.transaction t).cohort ≡ (x.transaction t).cohort
    pub coordinator : (y.transaction t).coordinator ≡ (x.transaction t).coordinator
    pub participant : (n : ℕ) → T (member (suc n) M) → (y.transaction t).participant (suc n) ≡ (x.transaction t).participant (suc n)
    pub marked : (y.transaction t).marked ≡ (x.transaction t).marked
    pub sent : (y.transaction t).sent ≡ (x.transaction t).sent
    pub entered : (y.transaction t).entered ≡ (x.transaction t).entered
    pub up : (s : ℕ) → T (names M s) → (y.site s).up ≡ (x.site s).up

  kept_then : {x y z : Run} → Kept x y → Kept y z → Kept x z
  kept_then a b =
      record {
        cohort = b.cohort ∙ a.cohort;
        coordinator = b.coordinator ∙ a.coordinator;
        participant = λ n m. b.participant n m ∙ a.participant n m;
        marked = b.marked ∙ a.marked;
        sent = b.sent ∙ a.sent;
        entered = b.entered ∙ a.entered;
        up = λ s k. b.up s k ∙ a.up s k;
      }

  -- the transaction is as it was
  whole_kept : {x y : Run} → y.transaction t ≡ x.transaction t → ((s : ℕ) → T (names M s) → (y.site s).up ≡ (x.site s).up) → Kept x y
  whole_kept e up =
      record {
        cohort = ap (λ (z : Transaction). z.cohort) e;
        coordinator = ap (λ (z : Transaction). z.coordinator) e;
        participant = λ n m. ap (λ (z : Transaction). z.participant (suc n)) e;
        marked = ap (λ (z : Transaction). z.marked) e;
        sent = ap (λ (z : Transaction). z.sent) e;
        entered = ap (λ (z : Transaction). z.entered) e;
        up = up;
      }

  other_kept : (u : ℕ) → u ≢ t → (f : Transaction → Transaction) (y : Run) → Kept y (at_transaction u f y)
  unfolding at_transaction
  other_kept u h f y = whole_kept (update_other u t f y.transaction (λ e. h (sym e))) (λ s k. refl)

  site_kept : (s : ℕ) (f : Site → Site) → ((a : Site) → (f a).up ≡ a.up) → (y : Run) → Kept y (at_site s f y)
  unfolding at_site
  site_kept s f h y = whole_kept refl (λ z k. update-keeps (λ (a : Site). a.up) f h s y.site z)

  -- ---- acts

  -- of another transaction, or a force
  abbrev pub Apart : Act → Type 0
  Apart a = (a.transaction ≢ t) ⊎ T (is_force a.effect)

  perform_kept : (s u : ℕ) (e : Effect) → (u ≢ t) ⊎ T (is_force e) → (y : Run) → Kept y (perform s u e y)
  unfolding perform
  perform_kept s u (append k fs) h y = site_kept s (appended (record { kind = k; transaction = u; fields = fs })) (λ a. unfold appended in refl) y
  perform_kept s u force h y = site_kept s forced (λ a. unfold forced in refl) y
  perform_kept s u (enter o) (inl h) y = other_kept u h (with_entered s o) y
  perform_kept s u (enter o) (inr h) y = absurd (unfold is_force in h)
  perform_kept s u (send m p) (inl h) y = other_kept u h (with_sent p _) y
  perform_kept s u (send m p) (inr h) y = absurd (unfold is_force in h)

  acts_kept : (s : ℕ) (l : List Act) → Each Apart l → (y : Run) → Kept y (perform_all s l y)
  unfolding perform_all
  acts_kept s [] h y = whole_kept refl (λ z k. refl)
  acts_kept s (a ∷ l) h y = kept_then (perform_kept s a.transaction a.effect h.0 y) (acts_kept s l h.1 _)

  acting_apart : (u : ℕ) → u ≢ t → (es : List Effect) → Each Apart (acting u es)
  unfolding acting
  acting_apart u h [] = tt
  acting_apart u h (e ∷ es) = (inl h, acting_apart u h es)

  -- ---- what settles

  -- a participant that is no member
  module _ (n : ℕ) (out : member (suc n) M ≡ false) where
    apart : (m : ℕ) → T (member (suc m) M) → suc m ≢ suc n
    apart m k e = subst T (ap (λ (q : ℕ). member q M) e ∙ out) k

    unnamed : (s : ℕ) → T (names M s) → s ≢ suc n
    unnamed zero k e = absurd (omega (arith, e))
    unnamed (suc m) k e = apart m k e

    participant_kept : (c : ParticipantPhase) (u : ℕ) (y : Run) → Kept y (at_transaction u (with_participant (suc n) c) y)
    unfolding at_transaction with_participant
    participant_kept c u y =
        let f = with_participant (suc n) c in
        record {
          cohort = update-keeps (λ (z : Transaction). z.cohort) f (λ z. refl) u y.transaction t;
          coordinator = update-keeps (λ (z : Transaction). z.coordinator) f (λ z. refl) u y.transaction t;
          participant = λ m k.
              update-keeps (λ (z : Transaction). z.participant (suc m)) f (λ z. update_other (suc n) (suc m) (λ _. c) z.participant (apart m k)) u y.transaction t;
          marked = update-keeps (λ (z : Transaction). z.marked) f (λ z. refl) u y.transaction t;
          sent = update-keeps (λ (z : Transaction). z.sent) f (λ z. refl) u y.transaction t;
          entered = update-keeps (λ (z : Transaction). z.entered) f (λ z. refl) u y.transaction t;
          up = λ s k. refl;
        }

    pub down_kept : (k : ℕ) (y : Run) → Kept y (down (suc n) k y)
    unfolding down forgotten with_coordinator with_participant
    down_kept k y =
        record {
          cohort = refl;
          coordinator = refl;
          participant = λ m q. update_other (suc n) (suc m) (λ _. ParticipantPhase.unknown) (y.transaction t).participant (apart m q);
          marked = refl;
          sent = refl;
          entered = refl;
          up = λ s q. ap (λ (a : Site). a.up) (update_other (suc n) s (stopped k) y.site (unnamed s q));
        }

    -- restart of such a site, which has no record of t
    module _ (r : Run) (idle : (k : ℕ) → holds t k (r.site (suc n)).stable ≡ false) where
      own_apart : (u : ℕ) → Each Apart (restarting r (suc n) u).acts
      unfolding restarting row_plan
      own_apart u = go (eqb u t) refl
        where
          go : (b : Bool) → eqb u t ≡ b → Each Apart (acting u (participant_restart (presumption_of (r.transaction u).cohort (suc n)) (suc n) (λ k. holds u k (r.site (suc n)).stable)).effects)
          go true e = rw (eqb-true u t e) (unfold participant_restart in (rw (idle 6, idle 7, idle 5) (unfold restart_with acting in tt)))
          go false e = acting_apart u (eqb-false u t e) _

      restart_apart : (ts : List ℕ) → Each Apart (restart_all r (suc n) ts).acts
      unfolding restart_all joined
      restart_apart [] = tt
      restart_apart (u ∷ ts) = each_append Apart (restarting r (suc n) u).acts (restart_all r (suc n) ts).acts (own_apart u) (restart_apart ts)

      restart_settles : (ts : List ℕ) (y : Run) → Kept y ((restart_all r (suc n) ts).settle y)
      unfolding restart_all joined restarting row_plan at_site
      restart_settles [] y = whole_kept refl (λ s k. ap (λ (a : Site). a.up) (update_other (suc n) s started y.site (unnamed s k)))
      restart_settles (u ∷ ts) y = kept_then (participant_kept _ u y) (restart_settles ts _)

  -- ---- plans

  abbrev pub Leaves : Plan → Type 0
  Leaves p = Each Apart p.acts × ((y : Run) → Kept y (p.settle y))

  nothing_kept : (y : Run) → Kept y y
  nothing_kept y = whole_kept refl (λ s k. refl)

  row-leaves : (u : ℕ) → u ≢ t → {X : Type 0} (s : ℕ) (g : X → Transaction → Transaction) (x : Row X) → Leaves (row_plan s u g x)
  unfolding row_plan
  row-leaves u h s g x = (acting_apart u h x.effects, other_kept u h (g x.phase))

  forget_kept : (u : ℕ) → u ≢ t → (b : Bool) (s : ℕ) (y : Run) → Kept y (forgotten_unless b u s y)
  unfolding forgotten_unless
  forget_kept u h true s y = nothing_kept y
  forget_kept u h false s y = other_kept u h (with_participant s ParticipantPhase.unknown) y

  discard_kept : (u : ℕ) → u ≢ t → (s : ℕ) (y : Run) → Kept y (discard u s y)
  unfolding discard
  discard_kept u h s y = kept_then (site_kept s (trimmed u) (λ a. unfold trimmed in refl) y) (forget_kept u h _ s _)

  -- a site that is down is no member's
  strange : (r : Run) → ((s : ℕ) → T (names M s) → (r.site s).up ≡ true) → (n : ℕ) → (r.site (suc n)).up ≡ false → member (suc n) M ≡ false
  strange r up n d = is_false (member (suc n) M) (λ k. true≢false (sym (up (suc n) k) ∙ d))

  pub plan-leaves : (r : Run) → ((s : ℕ) → T (names M s) → (r.site s).up ≡ true) → ((n : ℕ) → member (suc n) M ≡ false → (k : ℕ) → holds t k (r.site (suc n)).stable ≡ false)
      → (e : Event) → concerns t e ≡ false → first (refusals r e) ≡ 0 → All Leaves (plan r e)
  unfolding plan refusals
  plan-leaves r up idle (opening u N C) e h = (tt, other_kept u (eqb-false u t e) (opened_as (record { members = N; presume_commit = C })))
  plan-leaves r up idle (beginning u) e h = all_step Leaves r u 0 begin (λ X g x. row-leaves u (eqb-false u t e) 0 g x)
  plan-leaves r up idle (delivery u p m) e h =
      all_or Leaves (receiver m p) _ (tt, nothing_kept) (all_step Leaves r u (receiver m p) (received m p) (λ X g x. row-leaves u (eqb-false u t e) (receiver m p) g x))
  plan-leaves r up idle (timeout u s) e h = all_step Leaves r u s timer (λ X g x. row-leaves u (eqb-false u t e) s g x)
  plan-leaves r up idle (forcing s) e h = (unfold acting is_force in (inr tt, tt), nothing_kept)
  plan-leaves r up idle (discarding u s) e h = all_only Leaves _ _ (λ d. (tt, discard_kept u (eqb-false u t e) s))
  plan-leaves r up idle (crash s) e h = (tt, nothing_kept)
  plan-leaves r up idle (restart zero) e h = absurd (true≢false (sym (up 0 tt) ∙ (not_struck 5 _ [] h).0))
  plan-leaves r up idle (restart (suc n)) e h =
      let out = strange r up n (not_struck 5 _ [] h).0 in
      (restart_apart n out r (idle n out) _, restart_settles n out r (idle n out) _)
  plan-leaves r up idle (marking u p) e h = all_only Leaves _ _ (λ d. (tt, other_kept u (eqb-false u t e) (with_marked p)))

  -- carried out, whole or cut at a site that is no member's
  pub whole-leaves : (p : Plan) → Leaves p → (y : Run) → Kept y (p.settle (perform_all p.site p.acts y))
  whole-leaves p h y = kept_then (acts_kept p.site p.acts h.0 y) (h.1 _)

  pub cut-leaves : (n : ℕ) → member (suc n) M ≡ false → (l : List Act) (m : ℕ) → Each Apart l → (k : ℕ) (y : Run) → Kept y (down (suc n) k (perform_all (suc n) (take m l) y))
  cut-leaves n out l m h k y = kept_then (acts_kept (suc n) (take m l) (each_take Apart m l h) y) (down_kept n out k _)
