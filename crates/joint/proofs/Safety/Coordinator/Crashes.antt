-- The coordinator loses power: from each standing, in the middle of a row too, with each keep. At most one of the transaction's records is unforced.
use Prim.Native.Nat.{ℕ, suc}
use mathlib.Core.Path.{◌≡◌, refl}
use mathlib.Core.Bool.{Bool, true, false, not, ◌&&◌}
use mathlib.Core.List.{List, [], ◌∷◌, ◌++◌, append-nil, map-append}
use lib.Dec.{T}
use Rattle.codec.specs.Sets.{member}
use Rattle.site.specs.Presumption.{Outcome, commit, abort, same_outcome}
use Rattle.site.specs.Cohort.{Cohort, remaining, writes_init}
use Rattle.site.specs.Step.{read_only}
use Rattle.site.specs.Coordinator.{end_record}
use Rattle.joint.specs.State.{unknown_part, stopped, with_coordinator, with_participant, forgotten}
use Rattle.joint.proofs.Base.Booleans.{or_left, not-true, mp}
use Rattle.joint.proofs.View.View.{View, view_at, view_settle, view_down}
use Rattle.joint.proofs.Safety.Tables.{has, done}
use Rattle.joint.proofs.Safety.Invariant.{Log, l0, l1, kinds_in, class_of, resumed, waiting, resting, down, Standing, never, initial, collecting, decided, log_fits, proper_log, awaits_commit, init_log, between, record_for, site_with, sent_in, Mid, PhaseAs, Inv, cohort_of}
use Rattle.joint.proofs.Safety.Coordinator.Logs.{with_end, commit_log, waiting-down, resting_down, closed_fits, closed_kinds, abort_unwritten, closed_has, closed_proper, may_close, abort_down_lem, abort_resumed, commit_down, commit_resumed, commit_has, commit_kinds, initial_proper, commit_proper, none_proper, first_proper}
use Rattle.joint.proofs.Safety.Coordinator.Steps.{From, Shift, shift_keeps, stands_as, stand, forget_mid, from_same, from_none, same-votes, abort_votes, no_votes}
use Rattle.joint.proofs.Safety.Coordinator.Ways.{way_commit, way_lost, way_done, way_self, way_down}
use Rattle.codec.specs.Laws.Tests.{of_true}
use Rattle.joint.proofs.Base.Survivors.{keeps_first, survivors_none, survivors_one}

-- ---- what a crash or a row leads to

-- the invariant, with another standing; from whatever standing h was reached, so is that (a stable record 2 stays, until a discard drops it)
pub record Next (t : ℕ) (h : Standing) (w : View) : Type 0 where
  pub standing : Standing
  pub inv : Inv t standing w
  pub from : (h0 : Standing) → From (writes_init (cohort_of w)) h0 h → From (writes_init (cohort_of w)) h0 standing

-- ---- logs

module _ (g : Cohort) (out t : ℕ) (u : Bool) where
  -- nothing is unforced; the one unforced record is lost, or kept
  stopped_none : (k : ℕ) (ks : List ℕ) → stopped k (site_with g out t 0 u ks []) ≡ site_with g out t 0 false ks []
  unfolding stopped
  stopped_none k ks = rw (survivors_none k, append-nil) refl

  stopped_lost : (k : ℕ) → keeps_first k ≡ false → (ks : List ℕ) (j : ℕ) → stopped k (site_with g out t 0 u ks (j ∷ [])) ≡ site_with g out t 0 false ks []
  unfolding stopped
  stopped_lost k q ks j = rw (survivors_one k (record_for g out t 0 j) false q, append-nil) refl

  stopped_kept : (k : ℕ) → keeps_first k ≡ true → (ks ms : List ℕ) (j : ℕ) → ms ≡ ks ++ (j ∷ [])
      → stopped k (site_with g out t 0 u ks (j ∷ [])) ≡ site_with g out t 0 false ms []
  unfolding stopped
  stopped_kept k q ks ms j e = rw (e, map-append, survivors_one k (record_for g out t 0 j) true q) refl

module _ (t : ℕ) (v : View) where
  abbrev i : Bool
  i = writes_init (cohort_of v)

  -- acks are owed for a commit, where `out` is taken out
  abbrev a : ℕ → Bool
  a out = awaits_commit (remaining (cohort_of v) out)

  lost : {h h' : Standing} → Mid t h v → (k : ℕ) → Shift v h h' → stopped k (stands_as t v h) ≡ stands_as t v h'
      → PhaseAs h' unknown_part → T (between h') → Next t h (view_down 0 k v)
  unfolding view_down view_at view_settle with_coordinator with_participant forgotten
  lost {h} {h'} mid k x e c b =
      record {
        standing = h';
        inv = record { mid = forget_mid (stand mid x.move (shift_keeps x) (stopped k) e); phase = c; whole = b };
        from = x.from;
      }

  -- nothing decided: abort, with the records l
  abbrev abort_down : ℕ → Log → Standing
  abort_down out l = decided abort out down l

  from_initial : (b : Bool) (l : Log) → Mid t (initial b) v → T (log_fits i abort down (class_of l)) → T (proper_log i (a 0) (abort_down 0 l)) → Shift v (initial b) (abort_down 0 l)
  unfolding same_outcome
  from_initial b l mid f p =
      record {
        move = record { never = refl; fit = f; proper = p; sets = tt; remains = tt; votes = abort_votes down l mid; passing = λ n m. tt };
        from = λ h0. from_none h0 (λ o k. k) (λ k. absurd k) (λ n k. k);
      }

  from_collecting : (w out : ℕ) (b : Bool) → Mid t (collecting w out b) v → Shift v (collecting w out b) (abort_down out (init_log i))
  unfolding same_outcome
  from_collecting w out b mid =
      record {
        move =
            record {
              never = refl;
              fit = abort_down_lem i;
              proper = initial_proper i (a out);
              sets = tt;
              remains = tt;
              votes = abort_votes down (init_log i) mid;
              passing = λ n m. way_lost v n (member (suc n) w) (resumed (class_of (init_log i))) (abort_resumed i);
            };
        from = λ h0. from_none h0 (λ o k. k) (λ k. absurd k) (λ n k. k);
      }

  from_marked : (w out : ℕ) → Mid t (collecting w out true) v → Shift v (collecting w out true) (decided commit out down (commit_log i))
  from_marked w out mid =
      record {
        move =
            record {
              never = refl;
              fit = commit_down i;
              proper = commit_proper i (a out);
              sets = tt;
              remains = mid.sound.remains;
              votes =
                  record {
                    looked = mid.votes.looked;
                    said = λ n m k. mid.votes.said n m (not-true (member (suc n) w) (mid.sound.sets (suc n)));
                  };
              passing = λ n m.
                  way_commit v n (member (suc n) w) (resumed (class_of (commit_log i))) (not-true (member (suc n) w) (mid.sound.sets (suc n)))
                  (λ k. or_left (resumed (class_of (commit_log i))) (sent_in v (suc n) read_only) (of_true (commit_resumed i)));
            };
        from = λ h0. from_none h0 (λ o k. k) (λ k. commit_has i) (λ n k. k);
      }

  -- decided: the outcome stays
  rests : (o : Outcome) (out : ℕ) (b : Bool) (l l' : Log) → Mid t (decided o out (resting b) l) v → T (log_fits i o down (class_of l'))
      → T (proper_log i (a out) (decided o out down l')) → (T (has 2 (kinds_in l)) → T (has 2 (kinds_in l')))
      → Shift v (decided o out (resting b) l) (decided o out down l')
  rests o out b l l' mid f p grows =
      record {
        move = record { never = refl; fit = f; proper = p; sets = tt; remains = mid.sound.remains; votes = same-votes down l' mid; passing = λ n m. way_done v n o (not (resumed (class_of l'))) };
        from = λ h0. from_same i o out (resting b) down l l' h0 grows;
      }

  waits : (o : Outcome) (out w : ℕ) (l : Log) → Mid t (decided o out (waiting w) l) v → Shift v (decided o out (waiting w) l) (decided o out down l)
  waits o out w l mid =
      record {
        move =
            record {
              never = refl;
              fit = waiting-down i o l w mid.sound.fit;
              proper = mid.sound.proper;
              sets = tt;
              remains = mid.sound.remains;
              votes = same-votes down l mid;
              passing = λ n m. way_down v n o (not (member (suc n) w)) (resumed (class_of l)) (mp (not (resumed (class_of l))) (same_outcome o abort && not i) (abort_unwritten i o l w mid.sound.fit));
            };
        from = λ h0. from_same i o out (waiting w) down l l h0 (λ k. k);
      }

  -- ---- the crash

  pub crash_next : (h : Standing) → Mid t h v → (k : ℕ) → Next t h (view_down 0 k v)
  crash_next (never u) mid k =
      lost {h' =
      never false} mid k (record { move = record { never = refl; fit = tt; proper = tt; sets = tt; remains = tt; votes = no_votes refl (λ n m c. c); passing = λ n m. tt }; from = λ h0. from_none h0 (λ o b. b) (λ b. absurd b) (λ n k. k) }) (stopped_none
      (cohort_of v) 0 t u k []) refl tt
  crash_next (initial false) mid k = lost mid k (from_initial false l0 mid tt (none_proper i (a 0))) (stopped_none (cohort_of v) 0 t true k []) refl tt
  crash_next (initial true) mid k = go (keeps_first k) refl
    where
      go : (b : Bool) → keeps_first k ≡ b → Next t (initial true) (view_down 0 k v)
      go false q = lost mid k (from_initial true l0 mid tt (none_proper i (a 0))) (stopped_lost (cohort_of v) 0 t true k q [] 1) refl tt
      go true q =
          lost mid k (from_initial true l1 mid (unfold same_outcome in tt) (first_proper i (a 0) mid.sound.fit))
          (stopped_kept (cohort_of v) 0 t true k q [] (1 ∷ []) 1 refl) refl tt
  crash_next (collecting w out false) mid k = lost mid k (from_collecting w out false mid) (stopped_none (cohort_of v) out t true k (kinds_in (init_log i))) refl tt
  crash_next (collecting w out true) mid k = go (keeps_first k) refl
    where
      go : (b : Bool) → keeps_first k ≡ b → Next t (collecting w out true) (view_down 0 k v)
      go false q = lost mid k (from_collecting w out true mid) (stopped_lost (cohort_of v) out t true k q (kinds_in (init_log i)) 2) refl tt
      go true q =
          lost mid k (from_marked w out mid) (stopped_kept (cohort_of v) out t true k q (kinds_in (init_log i)) (kinds_in (commit_log i)) 2 (commit_kinds i)) refl tt
  crash_next (decided o out (waiting w) l) mid k = lost mid k (waits o out w l mid) (stopped_none (cohort_of v) out t true k (kinds_in l)) refl tt
  crash_next (decided o out (resting false) l) mid k =
      lost mid k (rests o out false l l mid (resting_down i o l false mid.sound.fit) mid.sound.proper (λ x. x)) (stopped_none (cohort_of v) out t true k (kinds_in l)) refl tt
  crash_next (decided o out (resting true) l) mid k = go (keeps_first k) refl
    where
      go : (b : Bool) → keeps_first k ≡ b → Next t (decided o out (resting true) l) (view_down 0 k v)
      go false q =
          lost mid k (rests o out true l l mid (resting_down i o l true mid.sound.fit) mid.sound.proper (λ x. x)) (stopped_lost (cohort_of v) out t true k q (kinds_in l) (end_record o)) refl tt
      go true q =
          lost mid k (rests o out true l (with_end l) mid (resting_down i o (with_end l) false (closed_fits i o l mid.sound.fit)) (closed_proper i (a out) o l mid.sound.fit (may_close (cohort_of v) o out l mid.sound.sets) mid.sound.proper) (closed_has l))
          (stopped_kept (cohort_of v) out t true k q (kinds_in l) (kinds_in (with_end l)) (end_record o) (closed_kinds i o l mid.sound.fit)) refl tt
  crash_next (decided o out down l) mid k =
      lost {h' =
      decided o out down l} mid k (record { move = record { never = refl; fit = mid.sound.fit; proper = mid.sound.proper; sets = tt; remains = mid.sound.remains; votes = same-votes down l mid; passing = λ n m. way_self v n (done o (not (resumed (class_of l)))) }; from = λ h0 f. f }) (stopped_none
      (cohort_of v) out t false k (kinds_in l)) refl tt
