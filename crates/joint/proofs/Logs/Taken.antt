-- The set taken out, in every run that events reach: a part of the members, outside the waiting set, empty in Open.
use Prim.Native.Nat.{ℕ, zero, suc, ◌<◌}
use mathlib.Core.Path.{◌≡◌, refl, sym, ap, subst, ◌∙◌}
use mathlib.Core.Logic.{⊎_elim}
use mathlib.Core.Bool.{Bool, true, false, cond, not, ◌&&◌, ◌||◌, true≢false}
use mathlib.Core.List.{List}
use mathlib.Core.Option.{none, some, none-ne-some, some-injective}
use native.Mathlib.Omega.{arith}
use lib.ListN.{take}
use lib.Dec.{T, eqb}
use borrow.Author.Tests.{eq-eqb}
use Rattle.codec.specs.Lists.{every, only_if}
use Rattle.codec.specs.Sets.{member, empty, those, without, both, either}
use Rattle.codec.specs.Laws.Masks.{those-below}
use Rattle.codec.specs.Laws.Members.{none_in}
use Rattle.codec.specs.Laws.Tests.{and_left, and_right, true_of, of_true}
use Rattle.site.specs.Presumption.{Outcome, commit, abort, same_outcome}
use Rattle.site.specs.Cohort.{Cohort, remaining, owing, writes_init}
use Rattle.site.specs.Step.{prepare, vote_yes, vote_no, read_only, tell, ack, Input, begin, timer, received, Effect, Row}
use Rattle.site.specs.Coordinator.{CoordinatorPhase, Coordinator, until_acked, telling, preparing, committing, aborting, on_begin, voted, counting, on_yes, on_no, coordinator_timer, taking_out, on_read_only, acked, acked_if, on_ack, leaving, leaving_if, coordinator_step, coordinator_restart}
use Rattle.site.specs.Participant.{ParticipantPhase}
use Rattle.site.specs.Numbers.{coordinator_phase, waiting_set, taken_out_in_range}
use Rattle.joint.specs.State.{Site, fresh, forced, started, with_coordinator, with_participant, with_marked, forgotten}
use Rattle.joint.specs.Plan.{opened_as}
use Rattle.joint.specs.Run.{after}
use Rattle.joint.specs.Safety.{history}
use Rattle.joint.proofs.Base.Booleans.{both_ways}
use Rattle.joint.proofs.Base.History.{by_events, after_snoc, history_snoc}
use Rattle.joint.proofs.View.View.{View, view, is_opened, view_at, view_settle, view_effects, view_down}
use Rattle.joint.proofs.View.Turn.{Carried, whole, cut_after, Given, view_start, trimmed_view, view_discard, view_forget, Turn, crashes, opens, coordinates, participates, marks, discards, starts, carries, resumes, returns, Turns, still, turn, forces}
use Rattle.joint.proofs.Safety.Sets.{of_those, none-empty, no_zero, without-part, taken-either, remains_in, owing-remaining}
use Rattle.joint.proofs.View.Events.{event_turns}
use Rattle.joint.proofs.View.Cohorts.{effects-same}
use Rattle.joint.proofs.Safety.Tracked.{seen_after, tracked}
use Rattle.joint.proofs.Logs.Facts.{part_of}

-- ---- what holds of the coordinator's part

pub record Apart (g : Cohort) (c : Coordinator) : Type 0 where
  pub byte : c.taken_out < 256
  pub members : (n : ℕ) → T (member (suc n) c.taken_out) → T (member (suc n) g.members)
  pub unawaited : (n : ℕ) → T (member (suc n) c.taken_out) → T (member (suc n) (waiting_set c.phase)) → ⊥
  pub initial : c.phase ≡ CoordinatorPhase.initial → c.taken_out ≡ 0

-- nobody is taken out
none_apart : (g : Cohort) (p : CoordinatorPhase) → Apart g (record { phase = p; taken_out = 0 })
none_apart g p =
    record {
      byte = omega arith;
      members = λ n k. absurd (subst T (none_in (suc n)) k);
      unawaited = λ n k u. absurd (subst T (none_in (suc n)) k);
      initial = λ e. refl;
    }

-- as the step on numbers asks for it
in_range_lem : (g : Cohort) (c : Coordinator) → Apart g c → taken_out_in_range g (coordinator_phase c.phase) (waiting_set c.phase) c.taken_out ≡ true
unfolding taken_out_in_range every both
in_range_lem g c x =
    rw (part_of c.taken_out g.members x.byte (λ p k. among p k), none_awaited, open_none c.phase x.initial) refl
  where
    among : (p : ℕ) → T (member p c.taken_out) → T (member p g.members)
    among zero k = absurd (no_zero c.taken_out k)
    among (suc n) k = x.members n k

    awaited : ℕ → Bool
    awaited p = member p c.taken_out && member p (waiting_set c.phase)

    none_awaited : empty (those awaited) ≡ true
    none_awaited =
        true_of (empty (those awaited))
        (none-empty (those awaited) (those-below awaited)
        (λ n k.
        let u = of_those awaited n k in
        x.unawaited n (and_left (member (suc n) c.taken_out) (member (suc n) (waiting_set c.phase)) u) (and_right (member (suc n) c.taken_out) (member (suc n) (waiting_set c.phase)) u)))

    open_none : (p : CoordinatorPhase) → (p ≡ CoordinatorPhase.initial → c.taken_out ≡ 0) → (not (eqb (coordinator_phase p) 0) || empty c.taken_out) ≡ true
    open_none CoordinatorPhase.initial f = unfold coordinator_phase empty in eq-eqb c.taken_out 0 (f refl)
    open_none (CoordinatorPhase.collecting w) f = unfold coordinator_phase in refl
    open_none (CoordinatorPhase.awaiting_acks commit w) f = unfold coordinator_phase in refl
    open_none (CoordinatorPhase.awaiting_acks abort w) f = unfold coordinator_phase in refl
    open_none CoordinatorPhase.unknown f = unfold coordinator_phase in refl

abbrev is_initial : CoordinatorPhase → Bool
is_initial CoordinatorPhase.initial = true
is_initial (CoordinatorPhase.collecting w) = false
is_initial (CoordinatorPhase.awaiting_acks o w) = false
is_initial CoordinatorPhase.unknown = false

-- a phase that is not Open, with such a waiting set
later_apart : (g : Cohort) (out : ℕ) (p : CoordinatorPhase) → out < 256 → ((n : ℕ) → T (member (suc n) out) → T (member (suc n) g.members))
    → ((n : ℕ) → T (member (suc n) out) → T (member (suc n) (waiting_set p)) → ⊥) → is_initial p ≡ false → Apart g (record { phase = p; taken_out = out })
later_apart g out p byte members unawaited e =
    record { byte = byte; members = members; unawaited = unawaited; initial = λ q. absurd (true≢false (sym (ap is_initial q) ∙ e)) }

-- ---- the rows

-- where acks of w are missing
until_waits : (o : Outcome) (w n : ℕ) → T (member (suc n) (waiting_set (until_acked o w))) → T (member (suc n) w)
unfolding until_acked waiting_set
until_waits o w n k = go (empty w) refl k
  where
    go : (b : Bool) → empty w ≡ b → T (member (suc n) (waiting_set (cond b CoordinatorPhase.unknown (CoordinatorPhase.awaiting_acks o w)))) → T (member (suc n) w)
    go true e k = absurd (subst T (none_in (suc n)) k)
    go false e k = k

until_later : (o : Outcome) (w : ℕ) → is_initial (until_acked o w) ≡ false
unfolding until_acked
until_later o w = go (empty w)
  where
    go : (b : Bool) → is_initial (cond b CoordinatorPhase.unknown (CoordinatorPhase.awaiting_acks o w)) ≡ false
    go true = refl
    go false = refl

module _ (t : ℕ) (g : Cohort) (small : g.members < 256) where
  -- a row leaves the part so
  abbrev Leaves : ℕ → Row CoordinatorPhase → Type 0
  Leaves out r = Apart g (record { phase = r.phase; taken_out = out })

  module _ (out : ℕ) (byte : out < 256) (members : (n : ℕ) → T (member (suc n) out) → T (member (suc n) g.members)) where
    -- nobody that was taken out is awaited of those that remain
    not-owing : (o : Outcome) (n : ℕ) → T (member (suc n) out) → T (member (suc n) (owing (remaining g out) o)) → ⊥
    not-owing o n k u = both_ways (member (suc n) out) k (remains_in g out n (owing-remaining g out o n u).0)

    voted_apart : (w : ℕ) → ((n : ℕ) → T (member (suc n) out) → T (member (suc n) w) → ⊥) → (a b : Bool) → Leaves out (voted t g out a b w)
    unfolding voted committing waiting_set
    voted_apart w apart true b = later_apart g out CoordinatorPhase.unknown byte members (λ n k u. absurd (subst T (none_in (suc n)) u)) refl
    voted_apart w apart false true =
        later_apart g out (until_acked commit (owing (remaining g out) commit)) byte members
        (λ n k u. not-owing commit n k (until_waits commit (owing (remaining g out) commit) n u)) (until_later commit (owing (remaining g out) commit))
    voted_apart w apart false false = later_apart g out (CoordinatorPhase.collecting w) byte members apart refl

    abort_apart : (i : Bool) (to : ℕ) → Leaves out (aborting t (remaining g out) i to)
    unfolding aborting both
    abort_apart i to =
        later_apart g out (until_acked abort w) byte members
        (λ n k u. not-owing abort n k (and_right (member (suc n) to) (member (suc n) (owing (remaining g out) abort)) (of_those _ n (until_waits abort w n u)))) (until_later abort w)
      where
        w : ℕ
        w = both to (owing (remaining g out) abort)

  -- fewer are waited for
  without_apart : (p w out : ℕ) → ((n : ℕ) → T (member (suc n) out) → T (member (suc n) w) → ⊥) → (n : ℕ) → T (member (suc n) out) → T (member (suc n) (without p w)) → ⊥
  without_apart p w out f n k u = f n k (without-part p w w (λ q m. m) (suc n) u)

  -- and not one that is taken out now
  taken_apart : (p w out : ℕ) → ((n : ℕ) → T (member (suc n) out) → T (member (suc n) w) → ⊥) → (n : ℕ) → T (member (suc n) (taking_out p out)) → T (member (suc n) (without p w)) → ⊥
  unfolding without
  taken_apart p w out f n k u =
      let x = of_those (λ q. member q w && not (eqb q p)) n u in
      ⊎_elim (λ m. f n m (and_left (member (suc n) w) (not (eqb (suc n) p)) x))
      (λ e. both_ways (eqb (suc n) p) (of_true (eq-eqb (suc n) p e)) (and_right (member (suc n) w) (not (eqb (suc n) p)) x)) (taken-either p out n k)

  module _ (row : Row Coordinator) where
    abbrev Done : Type 0
    Done = Apart g row.phase

    left : (out : ℕ) (r : Row CoordinatorPhase) → Leaves out r → leaving_if out (some r) ≡ some row → Done
    unfolding leaving_if leaving
    left out r x e = subst (λ (y : Row Coordinator). Apart g y.phase) (some-injective _ row e) x

    no_row : {A : Type 0} (out : ℕ) → leaving_if out none ≡ some row → A
    unfolding leaving_if
    no_row out e = absurd (none-ne-some row e)

    only : (out : ℕ) (b : Bool) (r : Row CoordinatorPhase) → Leaves out r → leaving_if out (only_if b r) ≡ some row → Done
    unfolding only_if
    only out true r x e = left out r x e
    only out false r x e = no_row out e

    -- the phase stays
    same : (c : Coordinator) (r : Row CoordinatorPhase) → r.phase ≡ c.phase → Apart g c → leaving_if c.taken_out (some r) ≡ some row → Done
    same c r p x e = left c.taken_out r (subst (λ (q : CoordinatorPhase). Apart g (record { phase = q; taken_out = c.taken_out })) (sym p) x) e

    -- ---- by phase

    collecting_apart : (w out : ℕ) → Apart g (record { phase = CoordinatorPhase.collecting w; taken_out = out }) → (i : Input) → ((p : ℕ) → i ≡ received read_only p → T (member p g.members))
        → coordinator_step t g i (record { phase = CoordinatorPhase.collecting w; taken_out = out }) ≡ some row → Done
    unfolding coordinator_step on_begin coordinator_timer on_yes on_no on_read_only on_ack counting waiting_set taking_out either
    collecting_apart w out x begin m e = no_row out e
    collecting_apart w out x timer m e = left out _ (abort_apart out x.byte x.members (writes_init g) (remaining g out).members) e
    collecting_apart w out x (received prepare p) m e = absurd (none-ne-some row e)
    collecting_apart w out x (received vote_yes p) m e = only out _ _ (voted_apart out x.byte x.members (without p w) (without_apart p w out x.unawaited) _ _) e
    collecting_apart w out x (received vote_no p) m e = only out _ _ (abort_apart out x.byte x.members (writes_init g) (without p (remaining g out).members)) e
    collecting_apart w out x (received read_only p) m e =
        only (taking_out p out) _ _
        (voted_apart (taking_out p out) (those-below _)
        (λ n k. ⊎_elim (x.members n) (λ q. subst (λ (z : ℕ). T (member z g.members)) (sym q) (m p refl)) (taken-either p out n k)) (without p w) (taken_apart p w out x.unawaited) _ _) e
    collecting_apart w out x (received (tell o) p) m e = absurd (none-ne-some row e)
    collecting_apart w out x (received (ack o) p) m e = no_row out e

    acked_apart : (o : Outcome) (w out : ℕ) → Apart g (record { phase = CoordinatorPhase.awaiting_acks o w; taken_out = out }) → (b : Bool) → Leaves out (acked o b w)
    unfolding acked waiting_set
    acked_apart o w out x true = later_apart g out CoordinatorPhase.unknown x.byte x.members (λ n k u. absurd (subst T (none_in (suc n)) u)) refl
    acked_apart o w out x false = x

    awaiting_apart : (o : Outcome) (w out : ℕ) → Apart g (record { phase = CoordinatorPhase.awaiting_acks o w; taken_out = out }) → (i : Input)
        → coordinator_step t g i (record { phase = CoordinatorPhase.awaiting_acks o w; taken_out = out }) ≡ some row → Done
    unfolding coordinator_step on_begin coordinator_timer on_yes on_no on_read_only on_ack telling
    awaiting_apart o w out x begin e = no_row out e
    awaiting_apart o w out x timer e = same _ _ refl x e
    awaiting_apart o w out x (received prepare p) e = absurd (none-ne-some row e)
    awaiting_apart o w out x (received vote_yes p) e = same _ _ refl x e
    awaiting_apart o w out x (received vote_no p) e = no_row out e
    awaiting_apart o w out x (received read_only p) e = no_row (taking_out p out) e
    awaiting_apart o w out x (received (tell d) p) e = absurd (none-ne-some row e)
    awaiting_apart o w out x (received (ack d) p) e = go (same_outcome d o) e
      where
        fewer : Apart g (record { phase = CoordinatorPhase.awaiting_acks o (without p w); taken_out = out })
        fewer = later_apart g out (CoordinatorPhase.awaiting_acks o (without p w)) x.byte x.members (unfold waiting_set in without_apart p w out x.unawaited) refl

        go : (b : Bool) → leaving_if out (acked_if b o (without p w)) ≡ some row → Done
        go true e = unfold acked_if in left out _ (acked_apart o (without p w) out fewer _) e
        go false e = no_row out (unfold acked_if in e)

    initial_apart : (out : ℕ) → out ≡ 0 → (i : Input) → coordinator_step t g i (record { phase = CoordinatorPhase.initial; taken_out = out }) ≡ some row → Done
    unfolding coordinator_step on_begin coordinator_timer on_yes on_no on_read_only on_ack preparing
    initial_apart out z begin e = left out _ (subst (λ (q : ℕ). Apart g (record { phase = CoordinatorPhase.collecting g.members; taken_out = q })) (sym z) (none_apart g (CoordinatorPhase.collecting g.members))) e
    initial_apart out z timer e = no_row out e
    initial_apart out z (received prepare p) e = absurd (none-ne-some row e)
    initial_apart out z (received vote_yes p) e = no_row out e
    initial_apart out z (received vote_no p) e = no_row out e
    initial_apart out z (received read_only p) e = no_row (taking_out p out) e
    initial_apart out z (received (tell o) p) e = absurd (none-ne-some row e)
    initial_apart out z (received (ack o) p) e = no_row out e

    unknown_apart : (out : ℕ) → Apart g (record { phase = CoordinatorPhase.unknown; taken_out = out }) → (i : Input)
        → coordinator_step t g i (record { phase = CoordinatorPhase.unknown; taken_out = out }) ≡ some row → Done
    unfolding coordinator_step on_begin coordinator_timer on_yes on_no on_read_only on_ack telling
    unknown_apart out x begin e = no_row out e
    unknown_apart out x timer e = no_row out e
    unknown_apart out x (received prepare p) e = absurd (none-ne-some row e)
    unknown_apart out x (received vote_yes p) e = same _ _ refl x e
    unknown_apart out x (received vote_no p) e = no_row out e
    unknown_apart out x (received read_only p) e = no_row (taking_out p out) e
    unknown_apart out x (received (tell o) p) e = absurd (none-ne-some row e)
    unknown_apart out x (received (ack o) p) e = no_row out e

    step_apart : (c : Coordinator) → Apart g c → (i : Input) → ((p : ℕ) → i ≡ received read_only p → T (member p g.members)) → coordinator_step t g i c ≡ some row → Done
    step_apart c x i m e = go c.phase c.taken_out x e
      where
        go : (p : CoordinatorPhase) (out : ℕ) → Apart g (record { phase = p; taken_out = out }) → coordinator_step t g i (record { phase = p; taken_out = out }) ≡ some row → Done
        go CoordinatorPhase.initial out x e = initial_apart out (x.initial refl) i e
        go (CoordinatorPhase.collecting w) out x e = collecting_apart w out x i m e
        go (CoordinatorPhase.awaiting_acks o w) out x e = awaiting_apart o w out x i e
        go CoordinatorPhase.unknown out x e = unknown_apart out x i e

-- ---- in a view

abbrev ApartIn : View → Type 0
ApartIn v = Apart v.transaction.cohort v.transaction.coordinator

-- with this cohort and this coordinator's part
apart_as : (v w : View) → w.transaction.cohort ≡ v.transaction.cohort → w.transaction.coordinator ≡ v.transaction.coordinator → ApartIn v → ApartIn w
apart_as v w e f x =
    subst (λ (g : Cohort). Apart g w.transaction.coordinator) (sym e) (subst (λ (c : Coordinator). Apart v.transaction.cohort c) (sym f) x)

effects_apart : (s t : ℕ) (es : List Effect) (v : View) → ApartIn v → ApartIn (view_effects s t es v)
effects_apart s t es v x = let e = effects-same s t es v in apart_as v (view_effects s t es v) e.0 e.1 x

down_apart : (s n : ℕ) (v : View) → ApartIn v → ApartIn (view_down s n v)
unfolding view_down forgotten with_coordinator with_participant
down_apart zero n v x = none_apart v.transaction.cohort CoordinatorPhase.unknown
down_apart (suc m) n v x = record { byte = x.byte; members = x.members; unawaited = x.unawaited; initial = x.initial }

-- a row at site s, whole or cut
carried_apart : {t s : ℕ} {es : List Effect} {f : View → View} {v w : View} → ((u : View) → ApartIn u → (u.transaction.cohort ≡ v.transaction.cohort) → ApartIn (f u)) → ApartIn v
    → Carried t s es f v w → ApartIn w
carried_apart {t} {s} {es} {f} {v} k x whole = k (view_effects s t es v) (effects_apart s t es v x) (effects-same s t es v).0
carried_apart {t} {s} {es} {f} {v} k x (cut_after m n) = down_apart s n (view_effects s t (take m es) v) (effects_apart s t (take m es) v x)

-- what touches neither the cohort nor the coordinator's part
settle_apart : (p : ℕ) (c : ParticipantPhase) (v : View) → ApartIn v → ApartIn (view_settle (with_participant p c) v)
unfolding view_settle with_participant
settle_apart p c v x = record { byte = x.byte; members = x.members; unawaited = x.unawaited; initial = x.initial }

site_apart : (s : ℕ) (k : Site → Site) (v : View) → ApartIn v → ApartIn (view_at s k v)
unfolding view_at
site_apart s k v x = record { byte = x.byte; members = x.members; unawaited = x.unawaited; initial = x.initial }

forget_apart : (b : Bool) (s : ℕ) (v : View) → ApartIn v → ApartIn (view_forget b s v)
unfolding view_forget
forget_apart true s v x = x
forget_apart false s v x = settle_apart s ParticipantPhase.unknown v x

-- what a row sets
row_apart : (c : Coordinator) (v u : View) → u.transaction.cohort ≡ v.transaction.cohort → Apart v.transaction.cohort c → ApartIn (view_settle (with_coordinator 0 c) u)
unfolding view_settle with_coordinator
row_apart c v u e x = subst (λ (g : Cohort). Apart g c) (sym e) x

-- a restart takes nobody out
restart_apart : (t : ℕ) (v : View) (row : Row Coordinator) (u : View) → u.transaction.cohort ≡ v.transaction.cohort → (has : ℕ → Bool) (told : ℕ → Cohort)
    → coordinator_restart t has told ≡ row → ApartIn (view_start 0 (with_coordinator 0 row.phase) u)
unfolding view_start coordinator_restart leaving
restart_apart t v row u q has told e =
    site_apart 0 started (view_settle (with_coordinator 0 row.phase) u) (row_apart row.phase v u q (subst (λ (r : Row Coordinator). Apart v.transaction.cohort r.phase) e (none_apart v.transaction.cohort _)))

woken_apart : (n : ℕ) (c : ParticipantPhase) (u : View) → ApartIn u → ApartIn (view_start (suc n) (with_participant (suc n) c) u)
unfolding view_start
woken_apart n c u y = site_apart (suc n) started (view_settle (with_participant (suc n) c) u) (settle_apart (suc n) c u y)

turn_apart : {t : ℕ} {Out : ℕ → Type 0} {v w : View} → v.transaction.cohort.members < 256 → ApartIn v → Turn t Out v w → ApartIn w
turn_apart {v} small x (crashes s n) = down_apart s n v x
turn_apart {v} small x (opens g a b c d e up ups) = unfold view_settle opened_as in none_apart g CoordinatorPhase.initial
turn_apart {v} small x (carries (coordinates {row} i o up k takes e) d) =
    carried_apart (λ u y q. row_apart row.phase v u q (step_apart _ v.transaction.cohort small row v.transaction.coordinator x i (given i k) e)) x d
  where
    given : (i : Input) → Given v i → (p : ℕ) → i ≡ received read_only p → T (member p v.transaction.cohort.members)
    given i k p q = (subst (Given v) q k).0
turn_apart {v} small x (carries (participates {row} n i m up k own e) d) = carried_apart (λ u y q. settle_apart (suc n) row.phase u y) x d
turn_apart {v} small x (marks n m e) = unfold view_settle with_marked in record { byte = x.byte; members = x.members; unawaited = x.unawaited; initial = x.initial }
turn_apart {v} small x (discards s up o e) = unfold view_discard in forget_apart _ s (view_at s trimmed_view v) (site_apart s trimmed_view v x)
turn_apart {v} small x (starts s e) = site_apart s started v x
turn_apart {v} small x (carries (resumes {row} o d e) c) = carried_apart (λ u y q. restart_apart _ v row u q _ _ e) x c
turn_apart {v} small x (carries (returns {row} n d e) c) = carried_apart (λ u y q. woken_apart n row.phase u y) x c

site_small : (s : ℕ) (v : View) → v.transaction.cohort.members < 256 → (view_at s forced v).transaction.cohort.members < 256
unfolding view_at
site_small s v h = h

turns_apart : {t : ℕ} {Out : ℕ → Type 0} {v w : View} → v.transaction.cohort.members < 256 → ApartIn v → Turns t Out v w → ApartIn w
turns_apart small x still = x
turns_apart small x (turn y) = turn_apart small x y
turns_apart small x (forces {v} s y) = turns_apart (site_small s v small) (site_apart s forced v x) y

-- ---- in every run that events reach

module _ (t : ℕ) where
  seen_apart : (es : List (List ℕ)) → ApartIn (seen_after t es)
  seen_apart =
      by_events (λ es. ApartIn (seen_after t es)) (unfold view history after fresh in none_apart _ CoordinatorPhase.unknown)
      (λ es e x.
      let inv = (tracked t es).inv in
      rw (history_snoc, after_snoc)
      (turns_apart inv.mid.sound.byte x (event_turns t (history fresh es) (after fresh es) e (λ q. inv.mid.sound.number (is_opened t (history fresh es) (after fresh es) q)))))

  pub taken_in_range : (es : List (List ℕ))
      → taken_out_in_range ((after fresh es).transaction t).cohort (coordinator_phase ((after fresh es).transaction t).coordinator.phase) (waiting_set ((after fresh es).transaction t).coordinator.phase) ((after fresh es).transaction t).coordinator.taken_out ≡ true
  unfolding view
  taken_in_range es = in_range_lem ((after fresh es).transaction t).cohort ((after fresh es).transaction t).coordinator (seen_apart es)
