-- A force and a discard at the coordinator keep the invariant.
use Prim.Native.Nat.{ℕ, suc}
use mathlib.Core.Path.{◌≡◌, refl, sym, ap, ◌∙◌, subst}
use mathlib.Core.Logic.{inl}
use mathlib.Core.Bool.{Bool, true, false, not, true≢false}
use mathlib.Core.List.{List, [], ◌∷◌, map, append-nil}
use lib.Dec.{T}
use Rattle.codec.specs.Lists.{any}
use Rattle.codec.specs.Laws.Tests.{of_true}
use Rattle.site.specs.Presumption.{Outcome, commit}
use Rattle.site.specs.Cohort.{Cohort, remaining, writes_init}
use Rattle.site.specs.Coordinator.{end_record}
use Rattle.joint.specs.State.{Site, forced}
use Rattle.joint.specs.Plan.{closes, newest, closed}
use Rattle.joint.proofs.Base.Booleans.{both_ways}
use Rattle.joint.proofs.View.View.{View, view_at}
use Rattle.joint.proofs.View.Turn.{Up, Opened, trimmed_view, view_forget, view_discard}
use Rattle.joint.proofs.Safety.Tables.{has}
use Rattle.joint.proofs.Safety.Invariant.{Log, l0, l1, l12, l2, l123, l23, l3, l14, l4, kinds_in, class_of, waiting, resting, down, Standing, never, initial, collecting, decided, out_of, stage_of, has_decided, SetsFit, awaits_commit, init_log, stable_at, between, record_for, site_with, Mid, PhaseAs, Inv, cohort_of, log_fits}
use Rattle.joint.proofs.Safety.Coordinator.Logs.{with_end, older, unended, resting_down, commit_record, waiting_unended, ending_unended, closed_fits, closed_kinds, closed_proper, may_close, older_fits, older_kinds, older_proper, end_unwritten}
use Rattle.joint.proofs.Safety.Coordinator.Steps.{From, Move, stands_as, stand, from_self, still_owed, same-votes}
use Rattle.joint.proofs.Safety.Coordinator.Crashes.{Next}
use Rattle.joint.proofs.Safety.Coordinator.Commits.{forced_kinds}
use Rattle.joint.proofs.Safety.Coordinator.Ways.{way_done, way_self}
use Rattle.joint.proofs.Safety.Outcomes.{same_outcome_lem}
use Rattle.joint.proofs.Base.Lists.{drop-map}
use Rattle.joint.proofs.Safety.Holds.{commit_awaits}

-- ---- what a turn leads to

-- the invariant, with a standing that comes from h; a record 2 may be gone behind a discard, so nothing is said of standings before h
pub record After (t : ℕ) (h : Standing) (w : View) : Type 0 where
  pub standing : Standing
  pub inv : Inv t standing w
  pub from : From (writes_init (cohort_of w)) h standing

pub next_after : {t : ℕ} {h : Standing} {w : View} → Next t h w → After t h w
next_after {h} x = record { standing = x.standing; inv = x.inv; from = x.from h (from_self _ h) }

-- ---- a standing that stays

same_move : {t : ℕ} {h : Standing} {v : View} → Mid t h v → Move v h h
same_move {h} {v} mid =
    record {
      never = refl;
      fit = mid.sound.fit;
      proper = mid.sound.proper;
      sets = mid.sound.sets;
      remains = mid.sound.remains;
      votes = mid.votes;
      passing = λ n m. way_self v n (stage_of h (suc n));
    }

-- ---- force

-- nothing is decided by it
pub record Forced (t : ℕ) (h : Standing) (w : View) : Type 0 where
  pub standing : Standing
  pub inv : Inv t standing w
  pub same : (o : Outcome) → has_decided standing o ≡ has_decided h o
  pub outs : out_of standing ≡ out_of h

module _ (t : ℕ) (v : View) where
  -- with a change of the log alone
  stood : {h h' : Standing} → Inv t h v → Move v h h' → (k : Site → Site) → k (stands_as t v h) ≡ stands_as t v h' → PhaseAs h' v.transaction.coordinator
      → T (between h')
      → ((o : Outcome) → has_decided h' o ≡ has_decided h o) → out_of h' ≡ out_of h → Forced t h (view_at 0 k v)
  unfolding view_at
  stood {h} {h'} inv x k e p b same outs =
      record {
        standing = h';
        inv = record { mid = stand inv.mid x (λ o u. subst T (sym (same o)) u) k e; phase = p; whole = b };
        same = same;
        outs = outs;
      }

  -- nothing is unforced
  forced-same : (out : ℕ) (u : Bool) (ks : List ℕ) → forced (site_with (cohort_of v) out t 0 u ks []) ≡ site_with (cohort_of v) out t 0 u ks []
  forced-same out u ks = forced_kinds (cohort_of v) out t u ks [] ks (sym (append-nil ks))

  ended : (o : Outcome) (out : ℕ) (l : Log) → Mid t (decided o out (resting true) l) v
      → Move v (decided o out (resting true) l) (decided o out (resting false) (with_end l))
  ended o out l mid =
      record {
        never = refl;
        fit = closed_fits (writes_init (cohort_of v)) o l mid.sound.fit;
        proper = closed_proper (writes_init (cohort_of v)) (awaits_commit (remaining (cohort_of v) out)) o l mid.sound.fit (may_close (cohort_of v) o out l mid.sound.sets) mid.sound.proper;
        sets = tt;
        remains = mid.sound.remains;
        votes = same-votes (resting false) (with_end l) mid;
        passing = λ n m. way_done v n o true;
      }

  pub force_next : (h : Standing) → Inv t h v → Forced t h (view_at 0 forced v)
  force_next (never u) inv = stood inv (same_move inv.mid) forced (forced-same 0 u []) inv.phase tt (λ r. refl) refl
  force_next (initial true) inv = absurd inv.whole
  force_next (initial false) inv = stood inv (same_move inv.mid) forced (forced-same 0 true []) inv.phase tt (λ r. refl) refl
  force_next (collecting w out true) inv = absurd inv.whole
  force_next (collecting w out false) inv =
      stood inv (same_move inv.mid) forced (forced-same out true (kinds_in (init_log (writes_init (cohort_of v))))) inv.phase inv.whole (λ r. refl) refl
  force_next (decided o out (waiting w) l) inv = stood inv (same_move inv.mid) forced (forced-same out true (kinds_in l)) inv.phase inv.whole (λ r. refl) refl
  force_next (decided o out (resting false) l) inv = stood inv (same_move inv.mid) forced (forced-same out true (kinds_in l)) inv.phase tt (λ r. refl) refl
  force_next (decided o out (resting true) l) inv =
      stood inv (ended o out l inv.mid) forced (forced_kinds (cohort_of v) out t true (kinds_in l) (end_record o ∷ []) (kinds_in (with_end l)) (closed_kinds (writes_init (cohort_of v)) o l inv.mid.sound.fit)) inv.phase tt (λ r. refl) refl
  force_next (decided o out down l) inv = stood inv (same_move inv.mid) forced (forced-same out false (kinds_in l)) inv.phase tt (λ r. refl) refl

-- ---- discard

-- a record 2 closes where nobody owes an ack for commit
module _ (g : Cohort) (out t : ℕ) where
  2-closes : closes (record_for g out t 0 2) ≡ not (awaits_commit (remaining g out))
  unfolding closes any
  2-closes = rw (commit_awaits g out t 0) refl

  -- it has no record that closes it, if a commit awaits acks
  not-closed : (l : Log) → T (unended (class_of l)) → (T (has 2 (kinds_in l)) → T (awaits_commit (remaining g out)))
      → closed (map (record_for g out t 0) (kinds_in l)) ≡ true → ⊥
  unfolding closed newest has any
  not-closed l0 o a e = true≢false (sym e)
  not-closed l1 o a e = true≢false (sym (unfold closes any in e))
  not-closed l12 o a e = both_ways (awaits_commit (remaining g out)) (a tt) (of_true (sym 2-closes ∙ e))
  not-closed l2 o a e = both_ways (awaits_commit (remaining g out)) (a tt) (of_true (sym 2-closes ∙ e))
  not-closed l123 o a e = absurd o
  not-closed l23 o a e = absurd o
  not-closed l3 o a e = absurd o
  not-closed l14 o a e = absurd o
  not-closed l4 o a e = absurd o

module _ (t : ℕ) (v : View) where
  abbrev Closes : ℕ → List ℕ → Type 0
  Closes out ks = closed (map (record_for (cohort_of v) out t 0) ks) ≡ true

  trims : (o : Outcome) (out : ℕ) (l : Log) → Mid t (decided o out (resting false) l) v
      → Move v (decided o out (resting false) l) (decided o out (resting false) (older l))
  trims o out l mid =
      record {
        never = refl;
        fit = older_fits (writes_init (cohort_of v)) o l mid.sound.fit;
        proper = older_proper (writes_init (cohort_of v)) (awaits_commit (remaining (cohort_of v) out)) l mid.sound.proper;
        sets = tt;
        remains = mid.sound.remains;
        votes = same-votes (resting false) (older l) mid;
        passing = λ n m. way_done v n o true;
      }

  -- a commit whose acks are awaited, or were
  owed : (b : Bool) (x : Outcome) (out : ℕ) (l : Log) → T (log_fits (writes_init (cohort_of v)) x (resting b) (class_of l)) → SetsFit (cohort_of v) (decided x out (resting true) l)
      → T (has 2 (kinds_in l)) → T (awaits_commit (remaining (cohort_of v) out))
  owed b x out l f s r =
      subst (λ (y : Outcome). SetsFit (cohort_of v) (decided y out (resting true) l))
      (same_outcome_lem x commit (commit_record (writes_init (cohort_of v)) x l r (resting_down (writes_init (cohort_of v)) x l b f))) s

  initial_open : (out : ℕ) (j : Bool) → Closes out (kinds_in (init_log j)) → ⊥
  unfolding has any
  initial_open out true k = not-closed (cohort_of v) out t l1 tt (λ f. absurd f) k
  initial_open out false k = not-closed (cohort_of v) out t l0 tt (λ f. absurd f) k

  trimmed_kinds : (out : ℕ) (l : Log) → trimmed_view (site_with (cohort_of v) out t 0 true (kinds_in l) []) ≡ site_with (cohort_of v) out t 0 true (kinds_in (older l)) []
  unfolding trimmed_view
  trimmed_kinds out l = rw (drop-map (record_for (cohort_of v) out t 0) (kinds_in l), sym (older_kinds true commit l)) refl

  discard_standing : (h : Standing) → Inv t h v → Opened v → Up v 0 → Closes (out_of h) (stable_at (writes_init (cohort_of v)) h) → After t h (view_at 0 trimmed_view v)
  unfolding view_at
  discard_standing (never u) inv o up e = absurd (true≢false (inv.mid.sound.opened ∙ o))
  discard_standing (initial b) inv o up e = absurd (not-closed (cohort_of v) 0 t l0 tt (λ f. absurd (unfold has any in f)) e)
  discard_standing (collecting w out b) inv o up e = absurd (initial_open out (writes_init (cohort_of v)) e)
  discard_standing (decided x out (waiting w) l) inv o up e =
      absurd (not-closed (cohort_of v) out t l (waiting_unended (writes_init (cohort_of v)) x l w inv.mid.sound.fit) (owed false x out l (end_unwritten (writes_init (cohort_of v)) x l w inv.mid.sound.fit) (still_owed x out w l inv.mid inv.whole)) e)
  discard_standing (decided x out (resting true) l) inv o up e =
      absurd
      (not-closed (cohort_of v) out t l (ending_unended (writes_init (cohort_of v)) x l inv.mid.sound.fit)
      (owed true x out l inv.mid.sound.fit inv.mid.sound.sets) e)
  discard_standing (decided x out (resting false) l) inv o up e =
      record {
        standing = decided x out (resting false) (older l);
        inv = record { mid = stand inv.mid (trims x out l inv.mid) (λ r k. k) trimmed_view (trimmed_kinds out l); phase = inv.phase; whole = tt };
        from = record { keeps = λ r k. k; new = inl; outs = λ n k. k };
      }
  discard_standing (decided x out down l) inv o up e = absurd (true≢false (sym up ∙ ap (λ (s : Site). s.up) inv.mid.log))

  pub discard_next : (h : Standing) → Inv t h v → Opened v → Up v 0 → closed (v.site 0).stable ≡ true → After t h (view_discard 0 v)
  unfolding view_discard view_forget
  discard_next h inv o up e = discard_standing h inv o up (subst (λ (s : Site). closed s.stable ≡ true) inv.mid.log e)
