-- Changes of the coordinator's standing within its rows, each allowed by what the members have sent.
use Prim.Native.Nat.{ℕ, zero, suc, ◌<◌}
use mathlib.Core.Path.{◌≡◌, refl, sym, subst}
use mathlib.Core.Logic.{◌⊎◌, inl, inr, ⊎_elim}
use mathlib.Core.Bool.{Bool, true, false, not, ◌&&◌, ◌||◌}
use lib.Dec.{T, eqb}
use borrow.Author.Tests.{eqb-true}
use Rattle.codec.specs.Sets.{member, empty, without, both}
use Rattle.codec.specs.Laws.Tests.{and_right, true_of, of_true}
use Rattle.codec.specs.Laws.Masks.{those-below}
use Rattle.site.specs.Presumption.{Outcome, commit, abort, same_outcome, acks}
use Rattle.site.specs.Cohort.{Cohort, remaining, presumption_of, owing, writes_init}
use Rattle.site.specs.Step.{Message, vote_yes, vote_no, read_only, ack}
use Rattle.site.specs.Coordinator.{until_acked, taking_out}
use Rattle.joint.proofs.Base.Booleans.{and_both, or_left, or_right, or-either, both_ways, not-true, is_false, of_false}
use Rattle.joint.proofs.View.View.{View}
use Rattle.joint.proofs.Safety.Tables.{Stage, asking}
use Rattle.joint.proofs.Safety.Sets.{of_those, member-those, member-owing, empty-none, no_zero, without-part, member-without, without_byte, taken-either, taken_still, taken_now, remains_in, remains_or_out, owing-remaining, owes_or_out}
use Rattle.joint.proofs.Safety.Invariant.{Log, class_of, resumed, waiting, resting, down, Standing, initial, collecting, decided, out_of, has_decided, log_fits, told_of, SetsFit, awaits_commit, init_log, sent_in, phase_at, between, Votes, Mid, cohort_of}
use Rattle.joint.proofs.Safety.Coordinator.Logs.{commit_log, resumed-waiting, down_resting, end_written, end_unwritten, abort_waits, commit_waits, commit_has, initial_proper, commit_proper}
use Rattle.joint.proofs.Safety.Coordinator.Steps.{PassesAt, From, Move, Shift, from_same, from_none, same-votes, abort_votes, no_votes}
use Rattle.joint.proofs.Safety.Coordinator.Ways.{way_count, way_commit, way_abort, way_looked, way_done, way_hear, way_resume, way_self}

-- those told of an abort of whom an ack is owed; `out` is taken out
abbrev pub awaited : Cohort → ℕ → ℕ → ℕ
awaited g out to = both to (owing (remaining g out) abort)

module _ (v : View) where
  abbrev g : Cohort
  g = cohort_of v

  abbrev i : Bool
  i = writes_init g

  -- ---- nothing is decided before and after

  undecided : {h h' : Standing} → ((o : Outcome) → T (has_decided h o) → ⊥) → (T (has_decided h' commit) → ⊥)
      → ((n : ℕ) → T (member (suc n) (out_of h')) → T (member (suc n) (out_of h))) → (x : Standing) → From i x h → From i x h'
  undecided f f' outs x = from_none x f (λ k. absurd (f' k)) outs

  -- record 1 is written
  pub writes : T i → Shift v (initial false) (initial true)
  writes k =
      record {
        move = record { never = refl; fit = k; proper = tt; sets = tt; remains = tt; votes = no_votes refl (λ n m c. c); passing = λ n m. tt };
        from = undecided (λ o k. k) (λ k. k) (λ n k. k);
      }

  -- all votes are missing
  pub begins : (b : Bool) → g.members < 256 → Shift v (initial b) (collecting g.members 0 false)
  begins b h =
      record {
        move =
            record {
              never = refl;
              fit = tt;
              proper = tt;
              sets = (h, λ p m. m);
              remains = tt;
              votes = no_votes refl (λ n m c. both_ways (member (suc n) g.members) m c);
              passing = λ n m. m;
            };
        from = undecided (λ o k. k) (λ k. k) (λ n k. k);
      }

  -- a vote of p is counted: a Yes, or a read-only vote, by which p is taken out
  module _ {t : ℕ} (p w out : ℕ) (mid : Mid t (collecting w out false) v) where
    -- the votes that were counted before, and that of p
    counted_or_new : (n : ℕ) → T (member (suc n) g.members) → T (not (member (suc n) (without p w))) → T (not (member (suc n) w)) ⊎ (suc n ≡ p)
    counted_or_new n m k =
        go (member (suc n) w) (eqb (suc n) p) refl (subst (λ (b : Bool). T (not b)) (member-without p w n g.members mid.sound.byte m) k)
      where
        go : (a b : Bool) → eqb (suc n) p ≡ b → T (not (a && not b)) → T (not a) ⊎ (suc n ≡ p)
        go true true e c = inr (eqb-true (suc n) p e)
        go true false e c = absurd c
        go false b e c = inl tt

    abbrev said_of : (j : Message) → T (sent_in v p j) → (n : ℕ) → suc n ≡ p → T (sent_in v (suc n) j)
    said_of j y n e = subst (λ (q : ℕ). T (sent_in v q j)) (sym e) y

    counting_move : (out' : ℕ) → T (sent_in v p vote_yes || sent_in v p read_only) → Votes v (collecting (without p w) out' false) → Move v (collecting w out false) (collecting (without p w) out' false)
    counting_move out' y said =
        record {
          never = refl;
          fit = tt;
          proper = tt;
          sets = (without_byte p w, without-part p w g.members mid.sound.sets.1);
          remains = tt;
          votes = said;
          passing = λ n m.
              rw (member-without p w n g.members mid.sound.byte m)
              (way_count v n (member (suc n) w) (eqb (suc n) p)
              (λ e. subst (λ (q : ℕ). T (sent_in v q vote_yes || sent_in v q read_only)) (sym (eqb-true (suc n) p (true_of _ e))) y));
        }

    pub counts : T (sent_in v p vote_yes) → Shift v (collecting w out false) (collecting (without p w) out false)
    counts y =
        record {
          move =
              counting_move out (or_left (sent_in v p vote_yes) (sent_in v p read_only) y)
              (record {
                looked = mid.votes.looked;
                said = λ n m k. ⊎_elim (mid.votes.said n m) (λ e. inr (said_of vote_yes y n e)) (counted_or_new n m k);
              });
          from = undecided (λ o k. k) (λ k. k) (λ n k. k);
        }

    pub takes : T (sent_in v p read_only) → Move v (collecting w out false) (collecting (without p w) (taking_out p out) false)
    takes y =
        counting_move (taking_out p out) (or_right (sent_in v p vote_yes) (sent_in v p read_only) y)
        (record {
          looked = λ n k. ⊎_elim (mid.votes.looked n) (said_of read_only y n) (taken-either p out n k);
          said = λ n m k.
              ⊎_elim (λ c. ⊎_elim (λ o. inl (taken_still p out n g.members mid.sound.byte m o)) inr (mid.votes.said n m c))
              (λ e. inl (taken_now p out n g.members mid.sound.byte m e)) (counted_or_new n m k);
        })

  -- record 2 is written where no vote is missing
  pub marks : {t : ℕ} (w out : ℕ) → Mid t (collecting w out false) v → T (empty w) → T (not (empty (remaining g out).members))
      → Shift v (collecting w out false) (collecting w out true)
  marks w out mid e left =
      record {
        move =
            record {
              never = refl;
              fit = tt;
              proper = tt;
              sets = λ p m. empty-none w p e m;
              remains = left;
              votes = record { looked = mid.votes.looked; said = mid.votes.said };
              passing = λ n m. way_self v n (asking (member (suc n) w));
            };
        from = undecided (λ o k. k) (λ k. k) (λ n k. k);
      }

  -- ---- the decision

  -- a member that owes an ack is waited for, or was taken out and has sent a read-only vote
  pub owes_or_looked : (o : Outcome) (out : ℕ) → g.members < 256 → ((n : ℕ) → T (member (suc n) out) → T (sent_in v (suc n) read_only)) → (n : ℕ)
      → T (member (suc n) g.members) → T (acks (presumption_of g (suc n)) o)
      → T (member (suc n) (owing (remaining g out) o) || sent_in v (suc n) read_only)
  owes_or_looked o out byte looked n m a =
      ⊎_elim (or_left (member (suc n) (owing (remaining g out) o)) (sent_in v (suc n) read_only))
      (λ k. or_right (member (suc n) (owing (remaining g out) o)) (sent_in v (suc n) read_only) (looked n k)) (owes_or_out g out byte o n m a)

  -- record 2 is stable
  pub commits : {t : ℕ} (w out : ℕ) → Mid t (collecting w out true) v
      → Shift v (collecting w out true) (decided commit out (waiting (owing (remaining g out) commit)) (commit_log i))
  unfolding owing
  commits w out mid =
      record {
        move =
            record {
              never = refl;
              fit = commit_waits i (owing (remaining g out) commit);
              proper = commit_proper i (awaits_commit (remaining g out));
              sets = (those-below _, λ p m. m);
              remains = mid.sound.remains;
              votes =
                  record {
                    looked = mid.votes.looked;
                    said = λ n m k. mid.votes.said n m (not-true (member (suc n) w) (mid.sound.sets (suc n)));
                  };
              passing = λ n m.
                  way_commit v n (member (suc n) w) (member (suc n) (owing (remaining g out) commit)) (not-true (member (suc n) w) (mid.sound.sets (suc n)))
                  (owes_or_looked commit out mid.sound.byte mid.votes.looked n m);
            };
        from = λ x. from_none x (λ o k. k) (λ k. commit_has i) (λ n k. k);
      }

  -- abort, told to the set `to` of those that remain; a member that is left out has said No, or only looked
  pub aborts : {t : ℕ} (to w out : ℕ) → Mid t (collecting w out false) v
      → ((q : ℕ) → T (member q to) → T (member q (remaining g out).members))
      → ((n : ℕ) → T (member (suc n) g.members) → T (not (member (suc n) to)) → T (sent_in v (suc n) vote_no || sent_in v (suc n) read_only))
      → Shift v (collecting w out false) (decided abort out (waiting (awaited g out to)) (init_log i))
  unfolding both same_outcome
  aborts to w out mid remain said =
      record {
        move =
            record {
              never = refl;
              fit = abort_waits i (awaited g out to);
              proper = initial_proper i (awaits_commit (remaining g out));
              sets = (those-below in_both, part);
              remains = tt;
              votes = abort_votes (waiting (awaited g out to)) (init_log i) mid;
              passing = λ n m.
                  way_abort v n (member (suc n) w) (member (suc n) to) (member (suc n) (awaited g out to)) (awaits n m) (said n m);
            };
        from = λ x. from_none x (λ o k. k) (λ k. absurd k) (λ n k. k);
      }
    where
      in_both : ℕ → Bool
      in_both p = member p to && member p (owing (remaining g out) abort)

      awaits : (n : ℕ) → T (member (suc n) g.members) → T (member (suc n) to) → T (acks (presumption_of g (suc n)) abort) → T (member (suc n) (awaited g out to))
      awaits n m k a =
          subst T (sym (member-those in_both n g.members mid.sound.byte m))
          (and_both (member (suc n) to) (member (suc n) (owing (remaining g out) abort)) k
          (⊎_elim (λ c. c) (λ c. absurd (both_ways (member (suc n) out) c (remains_in g out n (remain (suc n) k)))) (owes_or_out g out mid.sound.byte abort n m a)))

      part : (p : ℕ) → T (member p (awaited g out to)) → T (member p (owing g abort))
      part zero k = absurd (no_zero (awaited g out to) k)
      part (suc n) k =
          (owing-remaining g out abort n (and_right (member (suc n) to) (member (suc n) (owing (remaining g out) abort)) (of_those in_both n k))).1

  -- nobody remains: nothing is entered, and the coordinator is in Unknown; b: AbortEnd is written, as Init was
  pub vanishes : {t : ℕ} (w out : ℕ) → Mid t (collecting w out false) v → T (empty (remaining g out).members) → (b : Bool) → i ≡ b
      → Shift v (collecting w out false) (decided abort out (resting b) (init_log i))
  unfolding same_outcome
  vanishes w out mid e b q =
      record {
        move =
            record {
              never = refl;
              fit = rests b q;
              proper = initial_proper i (awaits_commit (remaining g out));
              sets = free b;
              remains = tt;
              votes = abort_votes (resting b) (init_log i) mid;
              passing = λ n m. way_looked v n (member (suc n) w) (gone n m);
            };
        from = λ x. from_none x (λ o k. k) (λ k. absurd k) (λ n k. k);
      }
    where
      gone : (n : ℕ) → T (member (suc n) g.members) → T (sent_in v (suc n) read_only)
      gone n m =
          ⊎_elim (λ k. absurd (empty-none (remaining g out).members (suc n) e k)) (mid.votes.looked n) (remains_or_out g out mid.sound.byte n m)

      rests : (b : Bool) → i ≡ b → T (log_fits i abort (resting b) (class_of (init_log i)))
      rests true q = end_written i abort (init_log i) 0 (or_left i (same_outcome abort commit) (of_true q)) (abort_waits i 0)
      rests false q = end_unwritten i abort (init_log i) 0 (abort_waits i 0)

      free : (b : Bool) → SetsFit g (decided abort out (resting b) (init_log i))
      free true = tt
      free false = tt

  -- ---- behind it

  module _ (o : Outcome) (out : ℕ) (l : Log) where
    -- an ack of p is heard
    pub hears : {t : ℕ} (p w : ℕ) → Mid t (decided o out (waiting w) l) v → T (sent_in v p (ack o)) → Shift v (decided o out (waiting w) l) (decided o out (waiting (without p w)) l)
    hears p w mid a =
        record {
          move =
              record {
                never = refl;
                fit = mid.sound.fit;
                proper = mid.sound.proper;
                sets = (without_byte p w, without-part p w (owing (told_of g out o) o) mid.sound.sets.1);
                remains = mid.sound.remains;
                votes = same-votes (waiting (without p w)) l mid;
                passing = λ n m.
                    rw (member-without p w n g.members mid.sound.byte m)
                    (way_hear v n o (member (suc n) w) (eqb (suc n) p)
                    (λ e. subst (λ (q : ℕ). T (sent_in v q (ack o))) (sym (eqb-true (suc n) p (true_of _ e))) a));
              };
          from = λ x. from_same i o out (waiting w) (waiting (without p w)) l l x (λ k. k);
        }

    -- nobody is waited for; b: an end record is written
    pub ends : {t : ℕ} (b : Bool) (w : ℕ) → Mid t (decided o out (waiting w) l) v → T (empty w) → T (log_fits i o (resting b) (class_of l))
        → SetsFit g (decided o out (resting b) l) → Shift v (decided o out (waiting w) l) (decided o out (resting b) l)
    ends b w mid e f s =
        record {
          move =
              record {
                never = refl;
                fit = f;
                proper = mid.sound.proper;
                sets = s;
                remains = mid.sound.remains;
                votes = same-votes (resting b) l mid;
                passing = λ n m. rw (is_false (member (suc n) w) (empty-none w (suc n) e)) (way_done v n o true);
              };
          from = λ x. from_same i o out (waiting w) (resting b) l l x (λ k. k);
        }

    -- a member that owes an ack is waited for at restart, or only looked
    resumed_owes : {t : ℕ} → Mid t (decided o out down l) v → (n : ℕ) → T (member (suc n) g.members) → T (acks (presumption_of g (suc n)) o)
        → T (member (suc n) (owing (told_of g out o) o) || sent_in v (suc n) read_only)
    resumed_owes mid n m a = go o a
      where
        go : (d : Outcome) → T (acks (presumption_of g (suc n)) d) → T (member (suc n) (owing (told_of g out d) d) || sent_in v (suc n) read_only)
        go commit a = owes_or_looked commit out mid.sound.byte mid.votes.looked n m a
        go abort a = or_left (member (suc n) (owing g abort)) (sent_in v (suc n) read_only) (subst T (sym (member-owing g abort n mid.sound.byte m)) a)

    -- a restart resumes the outcome and waits for acks
    pub resumes : {t : ℕ} → Mid t (decided o out down l) v → T (resumed (class_of l))
        → Shift v (decided o out down l) (decided o out (waiting (owing (told_of g out o) o)) l)
    unfolding owing
    resumes mid r =
        record {
          move =
              record {
                never = refl;
                fit = resumed-waiting i o l (owing (told_of g out o) o) r mid.sound.fit;
                proper = mid.sound.proper;
                sets = (those-below _, λ p k. k);
                remains = mid.sound.remains;
                votes = same-votes (waiting (owing (told_of g out o) o)) l mid;
                passing = λ n m.
                    way_resume v n o (not (resumed (class_of l))) (member (suc n) (owing (told_of g out o) o)) (resumed_owes mid n m);
              };
          from = λ x. from_same i o out down (waiting (owing (told_of g out o) o)) l l x (λ k. k);
        }

    -- or it is in Unknown, done with each member
    pub forgets : {t : ℕ} → Mid t (decided o out down l) v
        → ((n : ℕ) → T (member (suc n) g.members) → PassesAt v (Stage.done o (not (resumed (class_of l)))) (Stage.done o true) n)
        → Shift v (decided o out down l) (decided o out (resting false) l)
    forgets mid f =
        record {
          move = record { never = refl; fit = down_resting i o l mid.sound.fit; proper = mid.sound.proper; sets = tt; remains = mid.sound.remains; votes = same-votes (resting false) l mid; passing = f };
          from = λ x. from_same i o out down (resting false) l l x (λ k. k);
        }

    -- where nobody owes an ack
    pub forgets_told : {t : ℕ} → Mid t (decided o out down l) v → T (empty (owing (told_of g out o) o)) → Shift v (decided o out down l) (decided o out (resting false) l)
    forgets_told mid e =
        forgets mid
        (λ n m.
        way_resume v n o (not (resumed (class_of l))) false
        (λ a.
        or-either (member (suc n) (owing (told_of g out o) o)) (sent_in v (suc n) read_only) (λ k. absurd (empty-none (owing (told_of g out o) o) (suc n) e k)) (λ k. k)
        (resumed_owes mid n m a)))

-- ---- where a row leads that waits for acks

-- b: nobody is waited for; r: then an end record is written
abbrev pub settled_as : Bool → Bool → Outcome → ℕ → ℕ → Log → Standing
settled_as true r o out w l = decided o out (resting r) l
settled_as false r o out w l = decided o out (waiting w) l

pub settled_phase : (b r : Bool) (o : Outcome) (out w : ℕ) (l : Log) → empty w ≡ b → until_acked o w ≡ phase_at (settled_as b r o out w l)
unfolding until_acked
settled_phase true r o out w l e = rw e refl
settled_phase false r o out w l e = rw e refl

pub settled_between : (b r : Bool) (o : Outcome) (out w : ℕ) (l : Log) → empty w ≡ b → T (between (settled_as b r o out w l))
settled_between true r o out w l e = tt
settled_between false r o out w l e = of_false e
