-- Each turn, and so all that one event does to a view, keeps the invariant; a decision stays; commit is decided only behind a stable record 2 and all Yes votes.
use Prim.Native.Nat.{ℕ, zero, suc}
use mathlib.Core.Path.{◌≡◌, refl, sym, ◌∙◌, subst}
use mathlib.Core.Logic.{◌⊎◌, inl, inr, ⊎_elim}
use mathlib.Core.Bool.{Bool, false, ◌&&◌}
use mathlib.Core.List.{List, [], ◌∷◌}
use lib.ListN.{take}
use lib.Dec.{T, eqb}
use Rattle.codec.specs.Sets.{member, without}
use Rattle.codec.specs.Laws.Tests.{and_left, of_true}
use Rattle.site.specs.Coordinator.{Coordinator, taking_out}
use Rattle.site.specs.Presumption.{Outcome, commit}
use Rattle.site.specs.Cohort.{Cohort, writes_init}
use Rattle.site.specs.Step.{vote_yes, message_kind, Input, Effect, append, force, enter, send, Row}
use Rattle.joint.specs.State.{forced, holds, with_coordinator, forgotten, with_participant}
use Rattle.joint.specs.Safety.{sends, collects}
use Rattle.joint.proofs.Base.Booleans.{or-either}
use Rattle.joint.proofs.View.View.{View, view_at, view_settle, view_perform, view_effects, view_down}
use Rattle.joint.proofs.View.Turn.{Carried, whole, cut_after, Takes, view_start, view_discard, view_forget, Turn, crashes, opens, coordinates, participates, resumes, returns, carries, marks, discards, starts, Turns, still, turn, forces}
use Rattle.joint.proofs.Safety.Tables.{has, is_counted}
use Rattle.joint.proofs.Safety.Sets.{empty-none, taken-either}
use Rattle.joint.proofs.Safety.Invariant.{Standing, never, initial, collecting, decided, out_of, stage_of, has_decided, stable_at, Mid, PhaseAs, Inv, cohort_of}
use Rattle.joint.proofs.Safety.Coordinator.Steps.{From, own_number, from_self}
use Rattle.joint.proofs.Safety.Coordinator.Crashes.{crash_next}
use Rattle.joint.proofs.Safety.Participant.Participants.{force_kept, crash_kept, start_kept, row_kept, discard_kept, return_kept, mark_kept}
use Rattle.joint.proofs.Safety.Coordinator.Coordinators.{Stepped, steps, looks, coordinator_next}
use Rattle.joint.proofs.Safety.Coordinator.Discards.{After, next_after, force_next, discard_next}
use Rattle.joint.proofs.Safety.Coordinator.Resumes.{resume_next, effects-cohort}
use Rattle.joint.proofs.Safety.Coordinator.Opens.{open_after, start-after}

-- ---- a decided commit has all votes, but of those taken out

-- at a stage that has decided commit
pub decided-counted : (h : Standing) (n : ℕ) → T (has_decided h commit) → T (is_counted (stage_of h (suc n)))
decided-counted (never u) n d = absurd d
decided-counted (initial b) n d = absurd d
decided-counted (collecting w out b) n d = absurd d
decided-counted (decided o out p l) n d = d

pub all_voted : {t : ℕ} {v : View} (h : Standing) → Mid t h v → T (has_decided h commit) → (n : ℕ) → T (member (suc n) (cohort_of v).members)
    → T (member (suc n) (out_of h)) ⊎ T (v.voted (suc n))
all_voted h mid d n m = ⊎_elim inl (λ y. inr ((mid.fine n m).honest y)) (mid.votes.said n m (decided-counted h n d))

-- ---- the coordinator casts no vote

perform-voted : (t : ℕ) (e : Effect) (v : View) (n : ℕ) → T ((view_perform 0 t e v).voted (suc n)) → T (v.voted (suc n))
unfolding view_perform view_at
perform-voted t (append k fs) v n u = u
perform-voted t force v n u = u
perform-voted t (enter o) v n u = u
perform-voted t (send m p) v n u =
    or-either (v.voted (suc n)) _ (λ k. k)
    (λ k. absurd (subst T (own_number n) (and_left (eqb 0 (suc n)) _ (and_left (eqb 0 (suc n) && sends (message_kind vote_yes) (suc n) (send m p)) (holds t 5 (v.site (suc n)).stable) k)))) u

effects-voted : (t : ℕ) (es : List Effect) (v : View) (n : ℕ) → T ((view_effects 0 t es v).voted (suc n)) → T (v.voted (suc n))
unfolding view_effects
effects-voted t [] v n u = u
effects-voted t (e ∷ es) v n u = perform-voted t e v n (effects-voted t es (view_perform 0 t e v) n u)

-- ---- a turn

-- from the standing h0 to h: as `From`, but that the event may take someone out
pub record FromTurn (i : Bool) (Out : ℕ → Type 0) (h0 h : Standing) : Type 0 where
  pub keeps : (o : Outcome) → T (has_decided h0 o) → T (has_decided h o)
  pub new : T (has_decided h commit) → T (has_decided h0 commit) ⊎ T (has 2 (stable_at i h))
  pub outs : (n : ℕ) → T (member (suc n) (out_of h)) → T (member (suc n) (out_of h0)) ⊎ Out (suc n)

turned : {i : Bool} {Out : ℕ → Type 0} {h0 h : Standing} → From i h0 h → FromTurn i Out h0 h
turned f = record { keeps = f.keeps; new = f.new; outs = λ n k. inl (f.outs n k) }

-- what a turn from v to w leaves of the invariant with the standing h; Out: whom the event takes out
pub record Kept (t : ℕ) (Out : ℕ → Type 0) (h : Standing) (v w : View) : Type 0 where
  pub standing : Standing
  pub inv : Inv t standing w
  pub from : FromTurn (writes_init (cohort_of w)) Out h standing
  -- commit only behind the votes of all members, cast before the event, but of those taken out
  pub asked : T (has_decided standing commit) → (n : ℕ) → T (member (suc n) (cohort_of v).members) → T (member (suc n) (out_of standing)) ⊎ T (v.voted (suc n))

-- at a participant: the coordinator stands as it did
same_kept : {t : ℕ} {Out : ℕ → Type 0} {h : Standing} {v w : View} → Inv t h v → Inv t h w → Kept t Out h v w
same_kept {h} old new = record { standing = h; inv = new; from = turned (from_self _ h); asked = all_voted h old.mid }

-- at the coordinator
after_kept : {t : ℕ} {Out : ℕ → Type 0} {h : Standing} {v w : View} → cohort_of w ≡ cohort_of v → ((n : ℕ) → T (w.voted (suc n)) → T (v.voted (suc n)))
    → (standing : Standing) → Inv t standing w → FromTurn (writes_init (cohort_of w)) Out h standing → Kept t Out h v w
after_kept e f standing inv from =
    record {
      standing = standing;
      inv = inv;
      from = from;
      asked = λ d n m. ⊎_elim inl (λ u. inr (f n u)) (all_voted standing inv.mid d n (subst (λ (g : Cohort). T (member (suc n) g.members)) (sym e) m));
    }

module _ {t : ℕ} {es : List Effect} {f : View → View} {v : View} where
  carried_cohort : {w : View} → ((x : View) → cohort_of (f x) ≡ cohort_of x) → Carried t 0 es f v w → cohort_of w ≡ cohort_of v
  unfolding with_participant view_effects
  carried_cohort k whole = k _ ∙ effects-cohort t es v
  carried_cohort k (cut_after m n) = unfold view_down forgotten with_coordinator in effects-cohort t (take m es) v

  carried_voted : {w : View} → ((x : View) (n : ℕ) → T ((f x).voted (suc n)) → T (x.voted (suc n))) → Carried t 0 es f v w → (n : ℕ)
      → T (w.voted (suc n)) → T (v.voted (suc n))
  carried_voted k whole n u = effects-voted t es v n (k (view_effects 0 t es v) n u)
  carried_voted k (cut_after m j) n u = effects-voted t (take m es) v n (unfold view_down in u)

settle-cohort : (c : Coordinator) (x : View) → cohort_of (view_settle (with_coordinator 0 c) x) ≡ cohort_of x
unfolding view_settle with_coordinator
settle-cohort c x = refl

settle-voted : (c : Coordinator) (x : View) (n : ℕ) → T ((view_settle (with_coordinator 0 c) x).voted (suc n)) → T (x.voted (suc n))
unfolding view_settle
settle-voted c x n u = u

start-cohort : (c : Coordinator) (x : View) → cohort_of (view_start 0 (with_coordinator 0 c) x) ≡ cohort_of x
unfolding view_start view_at view_settle with_coordinator
start-cohort c x = refl

start-voted : (c : Coordinator) (x : View) (n : ℕ) → T ((view_start 0 (with_coordinator 0 c) x).voted (suc n)) → T (x.voted (suc n))
unfolding view_start view_at view_settle
start-voted c x n u = u

module _ {t : ℕ} {Out : ℕ → Type 0} where
  -- a standing that comes from h
  come_kept : {h : Standing} {v w : View} → cohort_of w ≡ cohort_of v → ((n : ℕ) → T (w.voted (suc n)) → T (v.voted (suc n))) → After t h w → Kept t Out h v w
  come_kept e f x = after_kept e f x.standing x.inv (turned x.from)

  -- where a step of the coordinator leads
  stepped_kept : {h : Standing} {i : Input} {v w : View} {row : Row Coordinator} → cohort_of w ≡ cohort_of v → ((n : ℕ) → T (w.voted (suc n)) → T (v.voted (suc n)))
      → PhaseAs h v.transaction.coordinator → Takes Out v i → Stepped t v row h i
      → Carried t 0 row.effects (view_settle (with_coordinator 0 row.phase)) v w → Kept t Out h v w
  stepped_kept e f p k (steps x) d = come_kept e f (next_after (x.next d))
  stepped_kept {v} {w} e f p k (looks {c} {out} q x) d =
      let y = x.next d in
      let from = y.from (collecting (without q c) (taking_out q out) false) (from_self _ _) in
      after_kept e f y.standing y.inv
      (record {
        keeps = λ o d. absurd d;
        new = λ d. ⊎_elim (λ z. absurd z) inr (from.new d);
        outs = λ n m. ⊎_elim inl (λ z. inr (subst Out (sym z) (k collecting_now))) (taken-either q out n (from.outs n m));
      })
    where
      collecting_now : T (collects v.transaction.coordinator.phase)
      collecting_now = subst (λ (z : Coordinator). T (collects z.phase)) (sym p) (unfold collects in tt)

  pub turn_kept : {h : Standing} {v w : View} → Inv t h v → Turn t Out v w → Kept t Out h v w
  unfolding view_at view_down view_discard view_forget forgotten with_coordinator with_participant
  turn_kept {h} {v} inv (crashes zero k) = come_kept refl (λ n u. u) (next_after (crash_next t v h inv.mid k))
  turn_kept {h} {v} inv (crashes (suc n) k) = same_kept inv (crash_kept t h v inv n k)
  turn_kept {h} {v} inv (opens g a b c d e up ups) =
      let x = open_after t v g a b c d e up ups h inv in
      record { standing = x.standing; inv = x.inv; from = turned x.from; asked = λ k n m. absurd (empty-none (cohort_of v).members (suc n) (of_true e) m) }
  turn_kept {h} {v} {w} inv (carries (coordinates {row} i o up k takes e) d) =
      stepped_kept (carried_cohort (settle-cohort row.phase) d) (carried_voted (settle-voted row.phase) d) inv.phase takes (coordinator_next t v row inv o up i k e) d
  turn_kept {h} {v} inv (carries (participates n i m up k its e) d) = same_kept inv (row_kept t h v inv n i m up e k its d)
  turn_kept {h} {v} {w} inv (carries (resumes {row} o d e) c) =
      come_kept (carried_cohort (start-cohort row.phase) c) (carried_voted (start-voted row.phase) c) (next_after ((resume_next t v h inv o d e).next c))
  turn_kept {h} {v} inv (carries (returns n d e) c) = same_kept inv (return_kept t h v inv n d e c)
  turn_kept {h} {v} inv (marks n m e) = same_kept inv (mark_kept t h v inv n m e)
  turn_kept {h} {v} inv (discards zero up o e) = come_kept refl (λ n u. u) (discard_next t v h inv o up e)
  turn_kept {h} {v} inv (discards (suc n) up o e) = same_kept inv (discard_kept t h v inv n up e)
  turn_kept {h} {v} inv (starts zero e) = come_kept refl (λ n u. u) (start-after t v e h inv)
  turn_kept {h} {v} inv (starts (suc n) e) = same_kept inv (start_kept t h v inv n e)

-- ---- an event

-- behind a force, by which nothing is decided, nobody taken out, and no vote cast
behind : {t : ℕ} {Out : ℕ → Type 0} {v w : View} (s : ℕ) (h h1 : Standing) → ((o : Outcome) → has_decided h1 o ≡ has_decided h o) → out_of h1 ≡ out_of h
    → Kept t Out h1 (view_at s forced v) w → Kept t Out h v w
unfolding view_at
behind {Out} s h h1 e q x =
    record {
      standing = x.standing;
      inv = x.inv;
      from =
          record {
            keeps = λ o k. x.from.keeps o (subst T (sym (e o)) k);
            new = λ c. ⊎_elim (λ k. inl (subst T (e commit) k)) inr (x.from.new c);
            outs = λ n k. subst (λ (z : ℕ). T (member (suc n) z) ⊎ Out (suc n)) q (x.from.outs n k);
          };
      asked = x.asked;
    }

pub turns_kept : {t : ℕ} {Out : ℕ → Type 0} {v w : View} (h : Standing) → Inv t h v → Turns t Out v w → Kept t Out h v w
turns_kept h inv still = same_kept inv inv
turns_kept h inv (turn x) = turn_kept inv x
turns_kept {t} h inv (forces {v} zero x) =
    let y = force_next t v h inv in
    behind 0 h y.standing y.same y.outs (turns_kept y.standing y.inv x)
turns_kept {t} h inv (forces {v} (suc n) x) = behind (suc n) h h (λ o. refl) refl (turns_kept h (force_kept t h v inv n) x)
