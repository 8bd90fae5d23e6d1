-- What the run stores as entered and as sent is what happened: each entry and each send of the history, and nothing else.
use Prim.Native.Nat.{ℕ, zero, suc}
use mathlib.Core.Path.{◌≡◌, refl, sym, ap, ◌∙◌, subst}
use mathlib.Core.Bool.{Bool, true, false, cond, ◌&&◌, ◌||◌, and-true, and-false, and_comm, or_assoc, or_comm, or-false}
use mathlib.Core.List.{List, [], ◌∷◌}
use lib.ListN.{take}
use lib.Dec.{eqb}
use Rattle.codec.specs.Lists.{any, every}
use Rattle.site.specs.Presumption.{Outcome, same_outcome}
use Rattle.site.specs.Cohort.{Cohort}
use Rattle.site.specs.Step.{message_kind, Input, begin, timer, received, receiver, Effect, append, force, enter, send}
use Rattle.joint.specs.State.{Run, Transaction, Act, fresh, update, at_site, at_transaction, with_coordinator, with_participant, with_marked, with_sent, with_entered, forgotten, down, perform, perform_all}
use Rattle.joint.specs.Event.{Event, opening, beginning, delivery, timeout, forcing, discarding, crash, restart, marking}
use Rattle.joint.specs.Plan.{Plan, row_plan, step, opened_as, forgotten_unless, discard, restarting, joined, restart_all, plan}
use Rattle.joint.specs.Run.{Result, refuse, carry, cut_short, partly, event, after}
use Rattle.joint.specs.Safety.{Moment, moments, happened, history, enters, sends, is_entry, is_entry_at, is_sending}
use Rattle.joint.proofs.Base.Booleans.{eqb-sym}
use Rattle.joint.proofs.Base.Lists.{any_append}
use Rattle.joint.proofs.Base.Updates.{update-keeps}
use Rattle.joint.proofs.Base.History.{EventCase, refused, whole, cut, event_case, by_events, after_snoc, history_snoc}
use Rattle.joint.proofs.Base.Plans.{All, all_planned, all_or, all_only}

-- a moment of the event e from the run r
abbrev moment_of : List ℕ → Run → Run → ℕ → Act → Moment
moment_of e r x s a = record { event = e; start = r; before = x; site = s; act = a }

-- ---- one thing that is stored of transaction t, and the moments at which it happens

module _ (t : ℕ) (f : Cohort → (ℕ → Bool) → (ℕ → ℕ → Bool) → (ℕ → Outcome → Bool) → Bool) where
  -- what the cohort, marks, messages and entries of a transaction show
  abbrev pub told : Transaction → Bool
  told x = f x.cohort x.marked x.sent x.entered

  abbrev pub shown : Run → Bool
  shown r = told (r.transaction t)

  -- what settles at the end of an event changes none of it
  abbrev pub Keeps : (Run → Run) → Type 0
  Keeps h = (x : Run) → shown (h x) ≡ shown x

  abbrev pub Settles : Plan → Type 0
  Settles p = Keeps p.settle

  pub at_keeps : (u : ℕ) (h : Transaction → Transaction) → ((x : Transaction) → told (h x) ≡ told x) → Keeps (at_transaction u h)
  unfolding at_transaction
  at_keeps u h k x = update-keeps told h k u x.transaction t

  step_keeps : (r : Run) (u s : ℕ) (i : Input) → All Settles (step r u s i)
  unfolding step row_plan with_coordinator with_participant
  step_keeps r u zero i = all_planned Settles 0 u _ _ (λ x e. at_keeps u _ (λ y. refl))
  step_keeps r u (suc n) i = all_planned Settles (suc n) u _ _ (λ x e. at_keeps u _ (λ y. refl))

  forget_keeps : (b : Bool) (u s : ℕ) → Keeps (forgotten_unless b u s)
  unfolding forgotten_unless with_participant
  forget_keeps true u s x = refl
  forget_keeps false u s x = at_keeps u _ (λ y. refl) x

  restarting_keeps : (r : Run) (s u : ℕ) → Settles (restarting r s u)
  unfolding restarting row_plan with_coordinator with_participant
  restarting_keeps r zero u = at_keeps u _ (λ y. refl)
  restarting_keeps r (suc n) u = at_keeps u _ (λ y. refl)

  restart_keeps : (r : Run) (s : ℕ) (ts : List ℕ) → Settles (restart_all r s ts)
  unfolding restart_all joined at_site
  restart_keeps r s [] x = refl
  restart_keeps r s (u ∷ ts) x = restart_keeps r s ts _ ∙ restarting_keeps r s u x

  -- but for an opening, which sets the cohort, and a mark
  abbrev pub Untouched : Event → Type 0
  Untouched e =
      ((u M C : ℕ) → e ≡ opening u M C → (x : Transaction) → told (opened_as (record { members = M; presume_commit = C }) x) ≡ told x)
      × ((u q : ℕ) → e ≡ marking u q → (x : Transaction) → told (with_marked q x) ≡ told x)

  pub plan_keeps : (r : Run) (e : Event) → Untouched e → All Settles (plan r e)
  unfolding plan discard at_site
  plan_keeps r (opening u M C) k = at_keeps u _ (k.0 u M C refl)
  plan_keeps r (beginning u) k = step_keeps r u 0 begin
  plan_keeps r (delivery u p m) k = all_or Settles _ _ (λ x. refl) (step_keeps r u (receiver m p) (received m p))
  plan_keeps r (timeout u s) k = step_keeps r u s timer
  plan_keeps r (forcing s) k = λ x. refl
  plan_keeps r (discarding u s) k = all_only Settles _ _ (λ h x. forget_keeps _ u s _)
  plan_keeps r (crash s) k = λ x. refl
  plan_keeps r (restart s) k = restart_keeps r s _
  plan_keeps r (marking u q) k = all_only Settles _ _ (λ h. at_keeps u (with_marked q) (k.1 u q refl))

  pub down_keeps : (s k : ℕ) → Keeps (down s k)
  unfolding down forgotten with_coordinator with_participant
  down_keeps zero k x = refl
  down_keeps (suc n) k x = refl

  -- an act stores it exactly where it happens
  module _ (g : Moment → Bool)
      (untouched : (e : Event) → Untouched e)
      (one : (e : List ℕ) (r x : Run) (s : ℕ) (a : Act) → shown (perform s a.transaction a.effect x) ≡ (shown x || g (moment_of e r x s a))) where
    acts-shown : (e : List ℕ) (r : Run) (s : ℕ) (l : List Act) (x : Run) → shown (perform_all s l x) ≡ (shown x || any g (moments e r s l x))
    unfolding perform_all moments any
    acts-shown e r s [] x = sym (or-false (shown x))
    acts-shown e r s (a ∷ l) x =
        let y = perform s a.transaction a.effect x in
        acts-shown e r s l y
        ∙ ap (λ (b : Bool). b || any g (moments e r s l y)) (one e r x s a)
        ∙ or_assoc (shown x) (g (moment_of e r x s a)) (any g (moments e r s l y))

    case_shown : (r : Run) (e : List ℕ) {z : Result} → EventCase r e z → shown z.run ≡ (shown r || any g (moments e r z.site z.acts r))
    unfolding refuse carry cut_short partly
    case_shown r e (refused n) = unfold moments any in sym (or-false (shown r))
    case_shown r e (whole {x} {p} a c) =
        subst (All Settles) a.planned (plan_keeps r x.event (untouched x.event)) (perform_all p.site p.acts r) ∙ acts-shown e r p.site p.acts r
    case_shown r e (cut {x} {p} n k a c h) = down_keeps p.site k _ ∙ acts-shown e r p.site (take n p.acts) r

    event-shown : (r : Run) (e : List ℕ) → shown (event r e).run ≡ (shown r || any g (happened r e))
    unfolding happened
    event-shown r e = case_shown r e (event_case r e)

    pub stored_is_history : shown fresh ≡ false → (es : List (List ℕ)) → shown (after fresh es) ≡ any g (history fresh es)
    stored_is_history start =
        by_events (λ es. shown (after fresh es) ≡ any g (history fresh es))
        (unfold after history any in start)
        (λ es e h.
        ap shown (after_snoc fresh es e)
        ∙ event-shown (after fresh es) e
        ∙ ap (λ (b : Bool). b || any g (happened (after fresh es) e)) h
        ∙ sym (any_append g (history fresh es) (happened (after fresh es) e))
        ∙ ap (any g) (sym (history_snoc fresh es e)))

-- ---- what no effect changes: the cohort and the marks

module _ (t : ℕ) (f : Cohort → (ℕ → Bool) → Bool) where
  abbrev pub unsent : Cohort → (ℕ → Bool) → (ℕ → ℕ → Bool) → (ℕ → Outcome → Bool) → Bool
  unsent cohort marked sent entered = f cohort marked

  perform_keeps : (s u : ℕ) (w : Effect) → Keeps t unsent (perform s u w)
  unfolding perform at_site
  perform_keeps s u (append k fs) x = refl
  perform_keeps s u force x = refl
  perform_keeps s u (enter o) x = at_keeps t unsent u (with_entered s o) (λ y. unfold with_entered in refl) x
  perform_keeps s u (send m q) x = at_keeps t unsent u (with_sent q (message_kind m)) (λ y. unfold with_sent in refl) x

  pub acts_keep : (s : ℕ) (l : List Act) → Keeps t unsent (perform_all s l)
  unfolding perform_all
  acts_keep s [] x = refl
  acts_keep s (a ∷ l) x = acts_keep s l _ ∙ perform_keeps s a.transaction a.effect x

-- ---- entries and messages

none_added : (a b c : Bool) → a ≡ (a || (b && (c && false)))
none_added a b c = simp (and-false, or-false)

module _ (e : List ℕ) (r x : Run) (s t : ℕ) where
  abbrev now : ℕ → Effect → Moment
  now u w = moment_of e r x s (record { transaction = u; effect = w })

  entry_stored : (z : ℕ) (o : Outcome) (u : ℕ) (w : Effect)
      → ((perform s u w x).transaction t).entered z o ≡ ((x.transaction t).entered z o || is_entry_at t z o (now u w))
  unfolding perform at_site with_sent is_entry_at is_entry every enters
  entry_stored z o u (append k fs) = none_added ((x.transaction t).entered z o) (eqb s z) (eqb u t)
  entry_stored z o u force = none_added ((x.transaction t).entered z o) (eqb s z) (eqb u t)
  entry_stored z o u (enter d) = rw (eqb-sym u t, eqb-sym s z) (unfold at_transaction update in go (eqb t u))
    where
      go : (b : Bool) → (cond b (with_entered s d (x.transaction t)) (x.transaction t)).entered z o
          ≡ ((x.transaction t).entered z o || (eqb z s && (b && (same_outcome o d && true))))
      go true = unfold with_entered in simp (and-true, or_comm)
      go false = none_added ((x.transaction t).entered z o) (eqb z s) true
  entry_stored z o u (send m p) =
      at_keeps t (λ cohort marked sent entered. entered z o) u (with_sent p (message_kind m)) (λ y. refl) x
      ∙ none_added ((x.transaction t).entered z o) (eqb s z) (eqb u t)

  message-stored : (q k u : ℕ) (w : Effect) → ((perform s u w x).transaction t).sent q k ≡ ((x.transaction t).sent q k || is_sending t q k (now u w))
  unfolding perform at_site with_entered is_sending every sends
  message-stored q k u (append j fs) = none_added ((x.transaction t).sent q k) (eqb u t) true
  message-stored q k u force = none_added ((x.transaction t).sent q k) (eqb u t) true
  message-stored q k u (enter o) =
      at_keeps t (λ cohort marked sent entered. sent q k) u (with_entered s o) (λ y. refl) x
      ∙ none_added ((x.transaction t).sent q k) (eqb u t) true
  message-stored q k u (send m p) = rw (eqb-sym u t) (unfold at_transaction update in go (eqb t u))
    where
      go : (b : Bool) → (cond b (with_sent p (message_kind m) (x.transaction t)) (x.transaction t)).sent q k
          ≡ ((x.transaction t).sent q k || (b && (eqb k (message_kind m) && eqb q p && true)))
      go true = unfold with_sent in simp (and-true, or_comm, and_comm (eqb k (message_kind m)) (eqb q p))
      go false = sym (or-false ((x.transaction t).sent q k))

-- for every list of events
pub entries-happened : (es : List (List ℕ)) (t s : ℕ) (o : Outcome) → ((after fresh es).transaction t).entered s o ≡ any (is_entry_at t s o) (history fresh es)
entries-happened es t s o =
    stored_is_history t (λ cohort marked sent entered. entered s o) (is_entry_at t s o) (λ e. (λ u M C h x. unfold opened_as in refl, λ u q h x. unfold with_marked in refl)) (λ e r x z a. entry_stored e r x z t s o a.transaction a.effect)
    (unfold fresh in refl) es

pub messages-happened : (es : List (List ℕ)) (t p k : ℕ) → ((after fresh es).transaction t).sent p k ≡ any (is_sending t p k) (history fresh es)
messages-happened es t p k =
    stored_is_history t (λ cohort marked sent entered. sent p k) (is_sending t p k) (λ e. (λ u M C h x. unfold opened_as in refl, λ u q h x. unfold with_marked in refl)) (λ e r x z a. message-stored e r x z t p k a.transaction a.effect)
    (unfold fresh in refl) es
