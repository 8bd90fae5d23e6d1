-- The coordinator's restart keeps the invariant.
use Prim.Native.Nat.{ℕ, zero, suc}
use mathlib.Core.Path.{◌≡◌, refl, sym, ap, ◌∙◌, subst}
use mathlib.Core.Bool.{Bool, true, false, not, ◌&&◌, true≢false}
use mathlib.Core.List.{List, [], ◌∷◌, map, append-nil}
use lib.Dec.{T}
use Rattle.codec.specs.Sets.{member, empty}
use Rattle.codec.specs.Laws.Tests.{of_true}
use Rattle.site.specs.Presumption.{Outcome, commit, abort, same_outcome}
use Rattle.site.specs.Cohort.{Cohort, remaining, owing, writes_init}
use Rattle.site.specs.Step.{Effect, append, force, enter, send, Row, given}
use Rattle.site.specs.Coordinator.{Coordinator, tell_all, until_acked, resuming, leaving, restart_from, coordinator_restart}
use Rattle.joint.specs.State.{Site, unknown_part, holds, recorded_cohort, started, with_coordinator, with_sent}
use Rattle.joint.proofs.View.View.{View, view_at, view_settle, view_perform, view_effects}
use Rattle.joint.proofs.View.Turn.{Opened, view_start}
use Rattle.joint.proofs.Safety.Tables.{has}
use Rattle.joint.proofs.Safety.Sets.{no_zero, remains_member}
use Rattle.joint.proofs.Safety.Invariant.{Log, kinds_in, class_of, resumed, waiting, resting, down, Standing, never, initial, collecting, decided, told_of, between, record_for, Mid, PhaseAs, Inv, cohort_of}
use Rattle.joint.proofs.Safety.Coordinator.Logs.{telling_kind, resumed_record, resumes_commit, resumes_abort}
use Rattle.joint.proofs.Safety.Holds.{holds_at, init_tells, commit_tells}
use Rattle.joint.proofs.Safety.Coordinator.Steps.{Shift, shift_keeps, stands_as, stand, settle_mid}
use Rattle.joint.proofs.Safety.Coordinator.Runs.{Node, Runs, Leads, leads, enter-run, runs_end, node_start}
use Rattle.joint.proofs.Safety.Coordinator.Commits.{enter_tell}
use Rattle.joint.proofs.Safety.Coordinator.Ways.{way_done}
use Rattle.joint.proofs.Safety.Coordinator.Shifts.{resumes, forgets, forgets_told, settled_as, settled_phase, settled_between}
use Rattle.joint.proofs.Safety.Outcomes.{refl-outcome}

-- ---- a restart, whole or cut

pub effects-cohort : (t : ℕ) (es : List Effect) (v : View) → cohort_of (view_effects 0 t es v) ≡ cohort_of v
unfolding view_effects
effects-cohort t [] v = refl
effects-cohort t (e ∷ es) v = effects-cohort t es (view_perform 0 t e v) ∙ one e
  where
    one : (e : Effect) → cohort_of (view_perform 0 t e v) ≡ cohort_of v
    one (append k fs) = unfold view_perform view_at in refl
    one force = unfold view_perform view_at in refl
    one (enter o) = unfold view_perform in refl
    one (send m p) = unfold view_perform with_sent in refl

module _ (t : ℕ) (h0 : Standing) where
  -- the effects happen while the site is down
  start_leads : {v : View} (es : List Effect) (o : Outcome) (out : ℕ) (l : Log) (h' : Standing) (c : Coordinator) → Runs t h0 v es (decided o out down l)
      → ((u : View) → cohort_of u ≡ cohort_of v → Mid t (decided o out down l) u → Shift u (decided o out down l) h')
      → ((u : View) → started (stands_as t u (decided o out down l)) ≡ stands_as t u h')
      → PhaseAs h' c → T (between h') → Leads t h0 v es (view_start 0 (with_coordinator 0 c))
  unfolding view_start view_at view_settle with_coordinator
  start_leads {v} es o out l h' c x k q p b =
      let y = runs_end t h0 v es (decided o out down l) x in
      let u = view_effects 0 t es v in
      let s = k u (effects-cohort t es v) y.mid in
      leads t h0 v es (decided o out down l) x
      (record {
        standing = h';
        inv = record { mid = settle_mid (stand y.mid s.move (shift_keeps s) started (q u)) c; phase = p; whole = b };
        from = λ z f. s.from z (y.from z f);
      })

  -- ---- the rows of restart

  module _ (v : View) (o : Outcome) (out : ℕ) (l : Log) where
    -- the cohort that the record tells
    abbrev rest : Cohort
    rest = told_of (cohort_of v) out o

    abbrev ending : Bool → Standing
    ending b = settled_as b false o out (owing rest o) l

    -- the outcome is entered, and told or not
    resume_run : (c : Bool) → Node t h0 v (decided o out down l) → Runs t h0 v (enter o ∷ given c (tell_all t rest o rest.members)) (decided o out down l)
    unfolding given
    resume_run true x =
        subst (λ (es : List Effect). Runs t h0 v (enter o ∷ es) (decided o out down l)) (append-nil (tell_all t rest o rest.members))
        (enter_tell t h0 {v = v} rest o out down l rest.members members [] (decided o out down l) x (λ u e y. y))
      where
        members : (q : ℕ) → T (member q rest.members) → T (member q (cohort_of v).members)
        members q k = go o q k
          where
            go : (d : Outcome) (q : ℕ) → T (member q (told_of (cohort_of v) out d).members) → T (member q (cohort_of v).members)
            go commit zero k = absurd (no_zero (remaining (cohort_of v) out).members k)
            go commit (suc n) k = remains_member (cohort_of v) out n k
            go abort q k = k
    resume_run false x = enter-run t h0 [] (decided o out down l) o x (refl-outcome o) (λ y. y)

    module _ (r : T (resumed (class_of l))) where
      resume_shift : (b : Bool) → empty (owing rest o) ≡ b → (u : View) → cohort_of u ≡ cohort_of v → Mid t (decided o out down l) u
          → Shift u (decided o out down l) (ending b)
      resume_shift true q u e mid = forgets_told u o out l mid (of_true (ap (λ (g : Cohort). empty (owing (told_of g out o) o)) e ∙ q))
      resume_shift false q u e mid = subst (λ (g : Cohort). Shift u (decided o out down l) (decided o out (waiting (owing (told_of g out o) o)) l)) e (resumes u o out l mid r)

      resume_stands : (b : Bool) (u : View) → started (stands_as t u (decided o out down l)) ≡ stands_as t u (ending b)
      unfolding started
      resume_stands true u = refl
      resume_stands false u = refl

      resume_phase : (b : Bool) → empty (owing rest o) ≡ b → PhaseAs (ending b) (record { phase = until_acked o (owing rest o); taken_out = 0 })
      resume_phase true q = settled_phase true false o out (owing rest o) l q
      resume_phase false q = settled_phase false false o out (owing rest o) l q

      resume_leads : (c : Bool) → Node t h0 v (decided o out down l)
          → Leads t h0 v (enter o ∷ given c (tell_all t rest o rest.members)) (view_start 0 (with_coordinator 0 (record { phase = until_acked o (owing rest o); taken_out = 0 })))
      resume_leads c x =
          start_leads (enter o ∷ given c (tell_all t rest o rest.members)) o out l (ending b) (record { phase = until_acked o (owing rest o); taken_out = 0 }) (resume_run c x)
          (resume_shift b refl) (resume_stands b) (resume_phase b refl) (settled_between b false o out (owing rest o) l refl)
        where
          b : Bool
          b = empty (owing rest o)

-- ---- restart

module _ (t : ℕ) (v : View) where
  -- a row of restart from the standing h
  abbrev Woken : Standing → Row Coordinator → Type 0
  Woken h row = Leads t h v row.effects (view_start 0 (with_coordinator 0 row.phase))

  -- nothing is resumed
  forget_leads : (o : Outcome) (out : ℕ) (l : Log) → Mid t (decided o out down l) v → resumed (class_of l) ≡ false
      → Woken (decided o out down l) (record { effects = []; phase = unknown_part })
  unfolding started
  forget_leads o out l mid q =
      start_leads t (decided o out down l) [] o out l (decided o out (resting false) l) unknown_part (node_start mid)
      (λ u e m. forgets u o out l m (λ n k. rw q (way_done u n o true))) (λ u. refl) refl tt

  -- what the log says: commit is resumed, abort is resumed, nothing is; the record tells the cohort
  restart_leads : (o : Outcome) (out : ℕ) (l : Log) → Mid t (decided o out down l) v → (cohort : ℕ → Cohort)
      → (T (resumed (class_of l)) → cohort (telling_kind o) ≡ told_of (cohort_of v) out o)
      → (r : Bool) → resumed (class_of l) ≡ r → Woken (decided o out down l) (leaving 0 (restart_from t (same_outcome o commit && r) (same_outcome o abort && r) cohort))
  unfolding restart_from resuming leaving same_outcome
  restart_leads commit out l mid cohort e true q =
      rw (e (of_true q)) (resume_leads t (decided commit out down l) v commit out l (of_true q) (not (empty (owing (remaining (cohort_of v) out) commit))) (node_start mid))
  restart_leads abort out l mid cohort e true q =
      rw (e (of_true q)) (unfold given in resume_leads t (decided abort out down l) v abort out l (of_true q) true (node_start mid))
  restart_leads commit out l mid cohort e false q = forget_leads commit out l mid q
  restart_leads abort out l mid cohort e false q = forget_leads abort out l mid q

  -- the record from which the outcome is resumed stands
  tells : (o : Outcome) (out : ℕ) (l : Log) → Mid t (decided o out down l) v → T (resumed (class_of l))
      → recorded_cohort t (telling_kind o) (v.site 0).stable ≡ told_of (cohort_of v) out o
  tells o out l mid r =
      ap (λ (s : Site). recorded_cohort t (telling_kind o) s.stable) mid.log ∙ go o (resumed_record (writes_init (cohort_of v)) o l r mid.sound.fit)
    where
      go : (d : Outcome) → T (has (telling_kind d) (kinds_in l)) → recorded_cohort t (telling_kind d) (map (record_for (cohort_of v) out t 0) (kinds_in l)) ≡ told_of (cohort_of v) out d
      go commit h = commit_tells (cohort_of v) out t 0 (kinds_in l) h
      go abort h = init_tells (cohort_of v) out t 0 (kinds_in l) h

  restart-row : (o : Outcome) (out : ℕ) (l : Log) → Mid t (decided o out down l) v → (cohort : ℕ → Cohort)
      → coordinator_restart t (λ k. holds t k (v.site 0).stable) cohort ≡ leaving 0 (restart_from t (same_outcome o commit && resumed (class_of l)) (same_outcome o abort && resumed (class_of l)) cohort)
  unfolding coordinator_restart
  restart-row o out l mid cohort =
      rw (holds_at (cohort_of v) out t 0 (kinds_in l) mid.log 1, holds_at (cohort_of v) out t 0 (kinds_in l) mid.log 2, holds_at (cohort_of v) out t 0 (kinds_in l) mid.log 3, holds_at (cohort_of v) out t 0 (kinds_in l) mid.log 4, resumes_commit (writes_init (cohort_of v)) o l mid.sound.fit, resumes_abort (writes_init (cohort_of v)) o l mid.sound.fit) refl

  pub resume_next : (h : Standing) → Inv t h v → Opened v → (v.site 0).up ≡ false → {row : Row Coordinator}
      → coordinator_restart t (λ k. holds t k (v.site 0).stable) (λ k. recorded_cohort t k (v.site 0).stable) ≡ row
      → Woken h row
  resume_next (never u) inv o up e = absurd (true≢false (inv.mid.sound.opened ∙ o))
  resume_next (initial b) inv o up e = absurd (true≢false (sym (ap (λ (s : Site). s.up) inv.mid.log) ∙ up))
  resume_next (collecting c out b) inv o up e = absurd (true≢false (sym (ap (λ (s : Site). s.up) inv.mid.log) ∙ up))
  resume_next (decided x out (waiting c) l) inv o up e = absurd (true≢false (sym (ap (λ (s : Site). s.up) inv.mid.log) ∙ up))
  resume_next (decided x out (resting b) l) inv o up e = absurd (true≢false (sym (ap (λ (s : Site). s.up) inv.mid.log) ∙ up))
  resume_next (decided x out down l) inv o up e =
      let cohort : ℕ → Cohort = λ k. recorded_cohort t k (v.site 0).stable in
      subst (Woken (decided x out down l)) (sym (restart-row x out l inv.mid cohort) ∙ e)
      (restart_leads x out l inv.mid cohort (tells x out l inv.mid) (resumed (class_of l)) refl)
