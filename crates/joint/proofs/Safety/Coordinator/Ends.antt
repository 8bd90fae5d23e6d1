-- The coordinator's rows that abort, that end an outcome, and that tell it again, effect by effect.
use Prim.Native.Nat.{ℕ, zero, suc}
use mathlib.Core.Path.{◌≡◌, refl, ap, subst}
use mathlib.Core.Bool.{Bool, true, false, not, ◌&&◌, ◌||◌}
use mathlib.Core.List.{List, [], ◌∷◌, append-nil}
use lib.Dec.{T}
use Rattle.codec.specs.Sets.{member, empty}
use Rattle.site.specs.Presumption.{Outcome, commit, abort, same_outcome, silence}
use Rattle.site.specs.Cohort.{Cohort, remaining, presumption_of, writes_init}
use Rattle.site.specs.Step.{vote_yes, vote_no, read_only, tell, Effect, append, given}
use Rattle.site.specs.Coordinator.{CoordinatorPhase, end_record, in_order, tell_all, aborting, telling}
use Rattle.joint.specs.State.{appended}
use Rattle.joint.proofs.Base.Booleans.{or_left, or_right}
use Rattle.joint.proofs.View.View.{View}
use Rattle.joint.proofs.Safety.Invariant.{Log, kinds_in, waiting, resting, Pace, Standing, collecting, decided, SetsFit, init_log, sent_in, site_with, cohort_of}
use Rattle.joint.proofs.Safety.Sets.{no_zero, remains_member}
use Rattle.joint.proofs.Safety.Coordinator.Logs.{end_written}
use Rattle.joint.proofs.Safety.Coordinator.Runs.{Node, Runs, node_stay, append-run, send-run, sends_run}
use Rattle.joint.proofs.Safety.Coordinator.Commits.{told, settle_node, enter_tell}
use Rattle.joint.proofs.Safety.Coordinator.Shifts.{awaited, aborts, vanishes, ends, settled_as}
use Rattle.joint.proofs.Safety.Outcomes.{refl-outcome}
use Rattle.codec.specs.Laws.Tests.{of_true}

-- ---- an end record

module _ (t : ℕ) (h0 : Standing) where
  end_appended : (g : Cohort) (out : ℕ) (o : Outcome) (ks : List ℕ)
      → appended (record { kind = end_record o; transaction = t; fields = [] }) (site_with g out t 0 true ks []) ≡ site_with g out t 0 true ks (end_record o ∷ [])
  unfolding appended end_record
  end_appended g out commit ks = refl
  end_appended g out abort ks = refl

  pub end_run : (v : View) (o : Outcome) (out w : ℕ) (l : Log) → T (empty w) → T (writes_init (cohort_of v) || same_outcome o commit)
      → SetsFit (cohort_of v) (decided o out (resting true) l) → Node t h0 v (decided o out (waiting w) l)
      → Runs t h0 v (append (end_record o) [] ∷ []) (decided o out (resting true) l)
  end_run v o out w l e i s x =
      append-run t h0 [] (decided o out (resting true) l) (end_record o) [] x
      (ends v o out l true w x.mid e (end_written (writes_init (cohort_of v)) o l w i x.mid.sound.fit) s) (end_appended (cohort_of v) out o (kinds_in l)) (λ y. y)

  -- ---- nobody remains: AbortEnd exactly if Init was written (b)

  pub vanish_run : (v : View) (w out : ℕ) → T (empty (remaining (cohort_of v) out).members) → (b : Bool) → writes_init (cohort_of v) ≡ b
      → Node t h0 v (collecting w out false)
      → Runs t h0 v (given b (append 4 [] ∷ [])) (decided abort out (resting b) (init_log (writes_init (cohort_of v))))
  unfolding given end_record
  vanish_run v w out e true q x =
      append-run t h0 [] (decided abort out (resting true) (init_log (writes_init (cohort_of v)))) 4 [] x (vanishes v w out x.mid e true q)
      (end_appended (cohort_of v) out abort (kinds_in (init_log (writes_init (cohort_of v))))) (λ y. y)
  vanish_run v w out e false q x = node_stay t h0 x (vanishes v w out x.mid e false q) refl

  -- ---- abort, told to the set `to`

  -- b: nobody is waited for; i: record 1 was written
  abort_end : (v : View) (b i : Bool) (out w : ℕ) (l : Log) → empty w ≡ b → writes_init (cohort_of v) ≡ i → Node t h0 v (decided abort out (waiting w) l)
      → Runs t h0 v (given (b && i) (append 4 [] ∷ [])) (settled_as b i abort out w l)
  unfolding given end_record
  abort_end v true true out w l e q x = end_run v abort out w l (of_true e) (or_left (writes_init (cohort_of v)) _ (of_true q)) tt x
  abort_end v true false out w l e q x = settle_node t h0 v true abort out w l e x
  abort_end v false i out w l e q x = x

  -- those that remain are told; a member that is left out has said No, or only looked
  pub abort_run : (v : View) (to w out : ℕ) → ((q : ℕ) → T (member q to) → T (member q (remaining (cohort_of v) out).members))
      → ((n : ℕ) → T (member (suc n) (cohort_of v).members) → T (not (member (suc n) to)) → T (sent_in v (suc n) vote_no || sent_in v (suc n) read_only))
      → Node t h0 v (collecting w out false)
      → Runs t h0 v (aborting t (remaining (cohort_of v) out) (writes_init (cohort_of v)) to).effects
      (settled_as (empty (awaited (cohort_of v) out to)) (writes_init (cohort_of v)) abort out (awaited (cohort_of v) out to) (init_log (writes_init (cohort_of v))))
  unfolding aborting
  abort_run v to w out part said x =
      enter_tell t h0 {v = v} (remaining (cohort_of v) out) abort out (waiting (awaited (cohort_of v) out to)) (init_log (writes_init (cohort_of v))) to members _ _
      (node_stay t h0 x (aborts v to w out x.mid part said) refl)
      (λ u f n.
      abort_end u (empty (awaited (cohort_of v) out to)) (writes_init (cohort_of v)) out (awaited (cohort_of v) out to) (init_log (writes_init (cohort_of v))) refl (ap writes_init f) n)
    where
      members : (q : ℕ) → T (member q to) → T (member q (cohort_of v).members)
      members zero k = absurd (no_zero to k)
      members (suc n) k = remains_member (cohort_of v) out n (part (suc n) k)

  -- ---- the outcome is told

  pub tell_run : (v : View) (o : Outcome) (out : ℕ) (p : Pace) (l : Log) (c : CoordinatorPhase) (n : ℕ) → T (member (suc n) (cohort_of v).members)
      → Node t h0 v (decided o out p l) → Runs t h0 v (telling o (suc n) c).effects (decided o out p l)
  unfolding telling
  tell_run v o out p l c n m x = send-run t h0 [] (decided o out p l) x false n m (λ k. absurd k) (tell o) (or_left (same_outcome o o) _ (refl-outcome o)) (λ y. y)

  pub tell_all_run : (v : View) (o : Outcome) (out : ℕ) (p : Pace) (l : Log) (to : ℕ) → ((q : ℕ) → T (member q to) → T (member q (cohort_of v).members))
      → Node t h0 v (decided o out p l) → Runs t h0 v (tell_all t (cohort_of v) o to) (decided o out p l)
  unfolding tell_all
  tell_all_run v o out p l to f x =
      subst (λ (es : List Effect). Runs t h0 v es (decided o out p l)) (append-nil (tell_all t (cohort_of v) o to))
      (sends_run t h0 [] (decided o out p l) (tell o) (in_order t (cohort_of v) o to) v (told t (cohort_of v) (cohort_of v) o out p l to f) x (λ w e y. y))

  -- a coordinator in Unknown says what silence means
  pub reply_run : (v : View) (o : Outcome) (out : ℕ) (b : Bool) (l : Log) (c : CoordinatorPhase) (n : ℕ) → T (member (suc n) (cohort_of v).members) → T (sent_in v (suc n) vote_yes)
      → Node t h0 v (decided o out (resting b) l)
      → Runs t h0 v (telling (silence (presumption_of (cohort_of v) (suc n))) (suc n) c).effects (decided o out (resting b) l)
  unfolding telling
  reply_run v o out b l c n m y x =
      let s = silence (presumption_of (cohort_of v) (suc n)) in
      send-run t h0 [] (decided o out (resting b) l) x true n m (λ k. y) (tell s) (or_right (same_outcome o s) (same_outcome s s) (refl-outcome s)) (λ z. z)
