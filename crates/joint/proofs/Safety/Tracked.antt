-- Along every list of events the invariant of every transaction holds; commit is decided exactly if record 2 was stable at some moment.
use Prim.Native.Nat.{ℕ, suc, ◌<◌}
use mathlib.Core.Path.{◌≡◌, refl, sym, ap, ◌∙◌, subst}
use mathlib.Core.Logic.{⊎_elim}
use mathlib.Core.Bool.{Bool, true, false, true≢false}
use mathlib.Core.List.{List, [], ◌∷◌, ◌++◌, map, append_assoc, append-nil}
use lib.Dec.{T}
use native.Mathlib.Omega.{arith}
use Rattle.codec.specs.Lists.{any, select}
use Rattle.codec.specs.Sets.{participants, member, empty, bits, those, both, part}
use Rattle.site.specs.Cohort.{writes_init}
use Rattle.site.specs.Presumption.{Outcome, commit}
use Rattle.joint.specs.State.{fresh, opened, holds}
use Rattle.joint.specs.Run.{event, after}
use Rattle.joint.specs.Safety.{happened, history, along, leaves, commit_stable, steps, is_taking_out, taken_out}
use Rattle.joint.proofs.Base.Booleans.{or_left, or_right, or-either}
use Rattle.joint.proofs.Base.History.{by_events, after_snoc, history_snoc, passed, committed_snoc}
use Rattle.joint.proofs.Base.Looked.{any_step}
use Rattle.joint.proofs.Base.Lists.{any_middle}
use Rattle.joint.proofs.Base.EventMoments.{commit_stays}
use Rattle.joint.proofs.View.View.{View, site_view, view, is_opened}
use Rattle.joint.proofs.View.Acts.{holds_select}
use Rattle.joint.proofs.View.Events.{OutBy, event_turns}
use Rattle.joint.proofs.Safety.Tables.{has, Status}
use Rattle.codec.specs.Laws.Members.{none_in}
use Rattle.joint.proofs.Safety.Holds.{holds_at}
use Rattle.joint.proofs.Safety.Invariant.{kinds_in, waiting, resting, down, Standing, never, initial, collecting, decided, out_of, has_decided, init_log, stable_at, Place, Mid, Inv, cohort_of}
use Rattle.joint.proofs.Safety.Coordinator.Logs.{waiting-down, resting_down, commit_record}
use Rattle.joint.proofs.Safety.Coordinator.Steps.{no_votes}
use Rattle.joint.proofs.Safety.Kept.{Kept, turns_kept}

part_none : part 0 0 ≡ true
unfolding part both those bits participants member
part_none = refl

module _ (t : ℕ) where
  -- what t sees of the run that a list of events leaves, and of its history
  abbrev pub seen_after : List (List ℕ) → View
  seen_after es = view t (history fresh es) (after fresh es)

  -- ---- one event more

  pub small : (es : List (List ℕ)) (h : Standing) → Inv t h (seen_after es) → opened (after fresh es) t ≡ true → t < 8
  small es h inv e = inv.mid.sound.number (is_opened t (history fresh es) (after fresh es) e)

  pub next_kept : (es : List (List ℕ)) (e : List ℕ) (h : Standing) → Inv t h (seen_after es)
      → Kept t (OutBy t (after fresh es) e) h (seen_after es) (seen_after (es ++ (e ∷ [])))
  next_kept es e h inv = rw (history_snoc, after_snoc) (turns_kept h inv (event_turns t (history fresh es) (after fresh es) e (small es h inv)))

  -- ---- a stable record 2 is of a decided commit

  pub record_decided : {v : View} (h : Standing) → Mid t h v → T (has 2 (stable_at (writes_init (cohort_of v)) h)) → T (has_decided h commit)
  unfolding has any
  record_decided (never u) mid r = r
  record_decided (initial b) mid r = r
  record_decided {v} (collecting w out b) mid r = go (writes_init (cohort_of v)) r
    where
      go : (j : Bool) → T (has 2 (kinds_in (init_log j))) → ⊥
      go true k = unfold has any in k
      go false k = unfold has any in k
  record_decided {v} (decided o out (waiting w) l) mid r =
      commit_record (writes_init (cohort_of v)) o l r (waiting-down (writes_init (cohort_of v)) o l w mid.sound.fit)
  record_decided {v} (decided o out (resting b) l) mid r =
      commit_record (writes_init (cohort_of v)) o l r (resting_down (writes_init (cohort_of v)) o l b mid.sound.fit)
  record_decided {v} (decided o out down l) mid r = commit_record (writes_init (cohort_of v)) o l r mid.sound.fit

  -- the run's record 2, and that of the standing
  pub record_stands : (es : List (List ℕ)) (h : Standing) → Inv t h (seen_after es)
      → commit_stable t (after fresh es) ≡ has 2 (stable_at (writes_init (cohort_of (seen_after es))) h)
  unfolding view commit_stable site_view
  record_stands es h inv =
      sym (holds_select t 2 ((after fresh es).site 0).stable)
      ∙ holds_at (cohort_of (seen_after es)) (out_of h) t 0 (stable_at (writes_init (cohort_of (seen_after es))) h) inv.mid.log 2

  -- ---- every list of events

  pub record Tracked (es : List (List ℕ)) : Type 0 where
    pub standing : Standing
    pub inv : Inv t standing (seen_after es)
    -- record 2 was stable at some moment exactly if commit is decided
    pub stable : T (has_decided standing commit) → T (any (commit_stable t) (along fresh es))
    pub decides : T (any (commit_stable t) (along fresh es)) → T (has_decided standing commit)
    -- those taken out are those whose read-only vote was delivered in Collecting
    pub outs : (n : ℕ) → T (member (suc n) (out_of standing)) → T (taken_out es t (suc n))

  -- a decision stays
  pub track_next : (es : List (List ℕ)) (e : List ℕ) (x : Tracked es)
      → (y : Tracked (es ++ (e ∷ []))) × ((o : Outcome) → T (has_decided x.standing o) → T (has_decided y.standing o))
  unfolding passed taken_out
  track_next es e x =
      let k = next_kept es e x.standing x.inv in (
        record {
          standing = k.standing;
          inv = k.inv;
          stable = λ d.
              subst T (sym (committed_snoc t es e))
              (⊎_elim (λ c. or_left before _ (x.stable c))
              (λ r. or_right before (any (commit_stable t) (passed (after fresh es) e)) (any_middle (commit_stable t) (map leaves (happened (after fresh es) e)) (event (after fresh es) e).run [] (subst T (now k) r))) (k.from.new d));
          decides = λ r.
              or-either before (any (commit_stable t) (passed (after fresh es) e)) (λ c. k.from.keeps commit (x.decides c))
              (λ p. record_decided k.standing k.inv.mid (subst T (sym (now k)) (commit_stays t (after fresh es) e p))) (subst T (committed_snoc t es e) r);
          outs = λ n m.
              subst T (sym (any_step (is_taking_out t (suc n)) es e))
              (⊎_elim (λ c. or_left (any (is_taking_out t (suc n)) (steps fresh es)) _ (x.outs n c)) (or_right (any (is_taking_out t (suc n)) (steps fresh es)) (is_taking_out t (suc n) (after fresh es, e))) (k.from.outs n m));
        },
        k.from.keeps,
      )
    where
      before : Bool
      before = any (commit_stable t) (along fresh es)

      now : (k : Kept t (OutBy t (after fresh es) e) x.standing (seen_after es) (seen_after (es ++ (e ∷ []))))
          → has 2 (stable_at (writes_init (cohort_of (seen_after (es ++ (e ∷ []))))) k.standing) ≡ commit_stable t (event (after fresh es) e).run
      now k = sym (record_stands (es ++ (e ∷ [])) k.standing k.inv) ∙ ap (commit_stable t) (after_snoc fresh es e)

  tracked_none : Tracked []
  unfolding view history after along any fresh commit_stable site_view select holds empty
  tracked_none =
      record {
        standing = never true;
        inv =
            record {
              mid =
                  record {
                    sound = record { number = λ e. absurd (true≢false e); byte = omega arith; part = part_none; opened = refl; fit = tt; proper = tt; sets = tt; remains = tt };
                    log = refl;
                    entries = λ o k. k;
                    votes = no_votes refl (λ n m c. c);
                    status = λ n. Status.off;
                    stands = λ n. subst (λ (b : Bool). Place b t n Status.off (seen_after [])) (sym (none_in (suc n))) (record { stable = refl; unforced = refl; sent = λ m. refl; entered = λ o. refl });
                    fine = λ n m. absurd (subst T (none_in (suc n)) m);
                  };
              phase = refl;
              whole = tt;
            };
        stable = λ k. absurd k;
        decides = λ k. k;
        outs = λ n k. absurd (subst T (none_in (suc n)) k);
      }

  pub tracked : (es : List (List ℕ)) → Tracked es
  tracked = by_events Tracked tracked_none (λ es e x. (track_next es e x).0)

  -- whatever comes later
  pub track_later : (es later : List (List ℕ)) (x : Tracked es) (o : Outcome) → T (has_decided x.standing o)
      → (y : Tracked (es ++ later)) × T (has_decided y.standing o)
  track_later es [] x o d = rw append-nil (x, d)
  track_later es (e ∷ later) x o d =
      let y = track_next es e x in
      rw append_assoc at (track_later (es ++ (e ∷ [])) later y.0 o (y.1 o d))
