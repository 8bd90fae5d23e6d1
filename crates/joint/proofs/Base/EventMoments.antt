-- What the moments of one event tell: a reply from Unknown is what silence means, and a commit record that was stable at one of them stays so to the end of the event.
use Prim.Native.Nat.{ℕ, zero, suc, ◌≤◌}
use mathlib.Core.Path.{◌≡◌, refl, ◌∙◌, ap}
use mathlib.Core.Logic.{◌⊎◌, inl, inr, ⊎_elim}
use mathlib.Core.Bool.{true, false}
use mathlib.Core.List.{List, [], ◌∷◌, ◌++◌, map}
use mathlib.Core.Option.{some}
use native.Mathlib.Omega.{arith}
use lib.ListN.{length, take}
use lib.Seq.{take-length}
use lib.Dec.{T}
use borrow.Author.Tests.{not-false}
use Rattle.codec.specs.Lists.{any, first}
use Rattle.codec.specs.Sets.{member}
use Rattle.codec.specs.Records.{LogRecord}
use Rattle.codec.specs.Laws.Tests.{true_of, of_true, every_at}
use Rattle.site.specs.Presumption.{Outcome, commit, abort, silence}
use Rattle.site.specs.Step.{vote_yes, tell, message_kind, coordinator_of, receiver, Input, begin, timer, received, Effect, append, force, enter, send}
use Rattle.site.specs.Cohort.{presumption_of}
use Rattle.site.specs.Coordinator.{CoordinatorPhase, telling, on_yes, leaving, leaving_if, coordinator_step}
use Rattle.joint.specs.State.{Run, Site, Act, at_site, at_transaction, takes_part, holds, appended, forced, stopped, started, down, perform, perform_all}
use Rattle.joint.specs.Event.{Event, opening, beginning, delivery, timeout, forcing, discarding, crash, restart, marking, Parsed}
use Rattle.joint.specs.Refusals.{stranger, refusals}
use Rattle.joint.specs.Plan.{Plan, acting, row_plan, planned, step, or_nothing, restarting, joined, restart_all, plan}
use Rattle.joint.specs.Run.{Result, refuse, partly, cut_short, carry, event}
use Rattle.joint.specs.Safety.{Moment, moments, happened, leaves, sends, is_reply, commit_stable}
use Rattle.joint.proofs.Base.Booleans.{or_cases}
use Rattle.joint.proofs.Base.Lists.{not-empty, any_cases, any_more}
use Rattle.joint.proofs.Base.Updates.{update-point}
use Rattle.joint.proofs.Base.History.{Accepted, EventCase, refused, whole, cut, event_case, passed}
use Rattle.joint.proofs.Base.Looked.{bytes_delivery}
use Rattle.joint.proofs.Base.Moments.{Within, moment_within}
use Rattle.joint.proofs.Base.Plans.{not_struck, is_up_lem, All, all_step, all_or, all_only}

-- ---- a reply

sole : (n : ℕ) (a b : Act) (u v : List Act) → take n (a ∷ []) ≡ u ++ (b ∷ v) → b ≡ a
sole zero a b u v e = absurd (not-empty u b v e)
sole (suc n) a b [] v e = cc
sole (suc zero) a b (c ∷ u) v e = absurd (not-empty u b v (cc))
sole (suc (suc n)) a b (c ∷ u) v e = absurd (not-empty u b v (cc))

told : (o d : Outcome) (p q : ℕ) → T (sends (message_kind (tell o)) p (send (tell d) q)) → o ≡ d
unfolding sends message_kind
told commit commit p q h = refl
told commit abort p q h = absurd h
told abort commit p q h = absurd h
told abort abort p q h = refl

-- o is what silence means to p, which is a member, and site 0 is up
abbrev pub Silent : Run → ℕ → ℕ → Outcome → Type 0
Silent r t p o = (o ≡ silence (presumption_of (r.transaction t).cohort p)) × T (member p (r.transaction t).cohort.members) × ((r.site 0).up ≡ true)

acts_of : {x q : Plan} → some x ≡ some q → q.acts ≡ x.acts
acts_of {x} {q} e = let k : q ≡ x = cc in ap (λ (p : Plan). p.acts) k

-- the acts of p's delivered Yes where the coordinator is Unknown
yes_acts : (r : Run) (t p : ℕ) (q : Plan) → (r.transaction t).coordinator.phase ≡ CoordinatorPhase.unknown → plan r (delivery t p vote_yes) ≡ some q
    → q.acts ≡ record { transaction = t; effect = send (tell (silence (presumption_of (r.transaction t).cohort p))) p } ∷ []
unfolding plan receiver coordinator_of step coordinator_step leaving_if leaving on_yes telling planned row_plan acting or_nothing
yes_acts r t p q u e = acts_of (rw u at e)

part-member : (r : Run) (t p : ℕ) → 1 ≤ p → takes_part (r.transaction t) p ≡ true → T (member p (r.transaction t).cohort.members)
unfolding takes_part
part-member r t zero l h = absurd (omega arith)
part-member r t (suc n) l h = of_true h

-- a delivered Yes that is not refused is of a member, and site 0 is up
yes_passes : (r : Run) (t p : ℕ) → 1 ≤ p → first (refusals r (delivery t p vote_yes)) ≡ 0
    → T (member p (r.transaction t).cohort.members) × ((r.site 0).up ≡ true)
unfolding refusals receiver coordinator_of stranger
yes_passes r t p l h =
    let k = (not_struck 2 _ _ h).1 in
    (part-member r t p l (not-false _ (not_struck 3 _ _ k).0), is_up_lem r 0 _ (not_struck 3 _ _ k).1)

module _ (r : Run) (e : List ℕ) (m : Moment) (t p : ℕ) (o : Outcome) (reply : T (is_reply t p o m)) (u : (r.transaction t).coordinator.phase ≡ CoordinatorPhase.unknown) where
  -- the only act of the event is m's
  reply_accepted : {x : Parsed} {q : Plan} → Accepted r e x q → m.event ≡ e → (n : ℕ) (a b : List Act) → take n q.acts ≡ a ++ (m.act ∷ b)
      → Silent r t p o
  unfolding is_reply message_kind
  reply_accepted {x} {q} c v n a b h =
      let tests = true_of _ reply in
      let d = bytes_delivery e x c.parsed t p vote_yes (rw v at (every_at _ tests 0)) in
      let act-is = sole n _ m.act a b (rw (yes_acts r t p q u (rw d.0 at c.planned)) at h) in
      let k = yes_passes r t p d.1 (rw d.0 at c.passed) in
      (told o _ p p (rw act-is at (of_true (every_at _ tests 3))), k.0, k.1)

  reply_case : {x : Result} → EventCase r e x → Within e r x.site x.acts r m → Silent r t p o
  unfolding refuse carry cut_short
  reply_case (refused k) w = absurd (not-empty w.first m.act w.next w.acts)
  reply_case (whole {p = q} a c) w = reply_accepted a w.event_is (length q.acts) w.first w.next (take-length q.acts ∙ w.acts)
  reply_case (cut n k a c b) w = reply_accepted a w.event_is n w.first w.next w.acts

-- upon p's Yes a coordinator in Unknown replies what silence means to p
pub reply_silence : (r : Run) (e : List ℕ) (seen : List Moment) (m : Moment) (rest : List Moment) → happened r e ≡ seen ++ (m ∷ rest)
    → (t p : ℕ) (o : Outcome) → T (is_reply t p o m) → (r.transaction t).coordinator.phase ≡ CoordinatorPhase.unknown → Silent r t p o
reply_silence r e seen m rest h t p o reply u = reply_case r e m t p o reply u (event_case r e) (moment_within r e seen m rest h)

-- ---- a stable commit record

module _ (t : ℕ) where
  -- record 2 is stable at a site
  abbrev StableAt : Site → Type 0
  StableAt x = T (holds t 2 x.stable)

  more_stable : (a b : List LogRecord) → T (holds t 2 a) → T (holds t 2 (a ++ b))
  unfolding holds
  more_stable a b h = any_more _ a b h

  perform-stable : (s u : ℕ) (e : Effect) (x : Run) → T (commit_stable t x) → T (commit_stable t (perform s u e x))
  unfolding commit_stable perform at_site at_transaction appended forced
  perform-stable s u (append k fs) x h = update-point StableAt (appended _) (λ y c. c) s x.site 0 h
  perform-stable s u force x h = update-point StableAt forced (λ y c. more_stable y.stable y.unforced c) s x.site 0 h
  perform-stable s u (enter o) x h = h
  perform-stable s u (send m p) x h = h

  acts-stable : (s : ℕ) (l : List Act) (x : Run) → T (commit_stable t x) → T (commit_stable t (perform_all s l x))
  unfolding perform_all
  acts-stable s [] x h = h
  acts-stable s (a ∷ l) x h = acts-stable s l _ (perform-stable s a.transaction a.effect x h)

  -- after one of the acts, and so after all of them
  moments-stable : (e : List ℕ) (r : Run) (s : ℕ) (l : List Act) (x : Run)
      → T (any (commit_stable t) (map leaves (moments e r s l x))) → T (commit_stable t (perform_all s l x))
  unfolding any moments leaves perform_all
  moments-stable e r s [] x h = absurd h
  moments-stable e r s (a ∷ l) x h =
      let y = perform s a.transaction a.effect x in
      ⊎_elim (acts-stable s l y) (moments-stable e r s l y) (or_cases (commit_stable t y) (any (commit_stable t) (map leaves (moments e r s l y))) h)

  down-stable : (s k : ℕ) (x : Run) → T (commit_stable t x) → T (commit_stable t (down s k x))
  unfolding commit_stable down stopped
  down-stable s k x h = update-point StableAt (stopped k) (λ y c. more_stable y.stable _ c) s x.site 0 h

  -- a plan with acts keeps it when it settles
  abbrev Keeps : Plan → Type 0
  Keeps p = (p.acts ≡ []) ⊎ ((x : Run) → T (commit_stable t x) → T (commit_stable t (p.settle x)))

  step_keeps : (r : Run) (u s : ℕ) (i : Input) → All Keeps (step r u s i)
  unfolding row_plan at_transaction commit_stable
  step_keeps r u s i = all_step Keeps r u s i (λ X g x. inr (λ y h. h))

  restarting-stable : (r : Run) (s u : ℕ) (x : Run) → T (commit_stable t x) → T (commit_stable t ((restarting r s u).settle x))
  unfolding restarting row_plan at_transaction commit_stable
  restarting-stable r zero u x h = h
  restarting-stable r (suc n) u x h = h

  restart-stable : (r : Run) (s : ℕ) (us : List ℕ) (x : Run) → T (commit_stable t x) → T (commit_stable t ((restart_all r s us).settle x))
  unfolding restart_all joined at_site started commit_stable
  restart-stable r s [] x h = update-point StableAt started (λ y c. c) s x.site 0 h
  restart-stable r s (u ∷ us) x h = restart-stable r s us ((restarting r s u).settle x) (restarting-stable r s u x h)

  plan_keeps : (r : Run) (e : Event) → All Keeps (plan r e)
  unfolding plan
  plan_keeps r (opening u M C) = inl refl
  plan_keeps r (beginning u) = step_keeps r u 0 begin
  plan_keeps r (delivery u p m) = all_or Keeps (receiver m p) _ (inl refl) (step_keeps r u (receiver m p) (received m p))
  plan_keeps r (timeout u s) = step_keeps r u s timer
  plan_keeps r (forcing s) = inr (λ x h. h)
  plan_keeps r (discarding u s) = all_only Keeps _ _ (λ e. inl refl)
  plan_keeps r (crash s) = inl refl
  plan_keeps r (restart s) = inr (restart-stable r s _)
  plan_keeps r (marking u p) = all_only Keeps _ _ (λ e. inl refl)

  event-stable : (r : Run) (e : List ℕ) {x : Result} → EventCase r e x
      → T (any (commit_stable t) (map leaves (moments e r x.site x.acts r))) → T (commit_stable t x.run)
  unfolding refuse carry cut_short partly any moments
  event-stable r e (refused n) h = absurd h
  event-stable r e (whole {x} {p} a c) h =
      let g : Keeps p = rw a.planned at (plan_keeps r x.event) in
      ⊎_elim (λ q. absurd (rw q at h)) (λ k. k _ (moments-stable e r p.site p.acts r h)) g
  event-stable r e (cut {x} {p} n k a c b) h = down-stable p.site k (partly r p n) (moments-stable e r p.site (take n p.acts) r h)

  -- a commit record that is stable at a moment of an event, or after it, is stable after it
  pub commit_stays : (r : Run) (e : List ℕ) → T (any (commit_stable t) (passed r e)) → T (commit_stable t (event r e).run)
  unfolding any passed happened
  commit_stays r e h =
      ⊎_elim (event-stable r e (event_case r e)) (λ k. ⊎_elim (λ c. c) (λ c. absurd c) (or_cases (commit_stable t (event r e).run) false k))
      (any_cases (commit_stable t) (map leaves (happened r e)) ((event r e).run ∷ []) h)
