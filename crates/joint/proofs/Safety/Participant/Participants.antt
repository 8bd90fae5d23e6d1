-- All that happens at a participant keeps the invariant.
use Prim.Native.Nat.{ℕ, suc}
use mathlib.Core.Path.{◌≡◌, refl, sym, ap, subst, ◌∙◌, fun_ext}
use mathlib.Core.Bool.{Bool, true, false, not, ◌||◌, true≢false}
use mathlib.Core.List.{List, [], ◌∷◌, map}
use mathlib.Core.Option.{Option, none, some}
use native.Mathlib.Omega.{arith}
use lib.ListN.{take}
use lib.Dec.{T, eqb}
use borrow.Author.Tests.{eq-eqb, ne_eqb, eqb-true, eqb-false}
use Rattle.codec.specs.Lists.{any}
use Rattle.codec.specs.Records.{LogRecord}
use Rattle.codec.specs.Sets.{member, empty}
use Rattle.codec.specs.Laws.Tests.{true_of, of_true}
use Rattle.site.specs.Presumption.{Outcome, commit, abort, same_outcome, Presumption, acks}
use Rattle.site.specs.Cohort.{Cohort, presumption_of}
use Rattle.site.specs.Step.{prepare, vote_yes, vote_no, read_only, tell, ack, Input, begin, timer, received, Effect, force, send, Row, given}
use Rattle.site.specs.Participant.{ParticipantPhase, outcome_record, voting, promising, first_vote, on_prepare, acking, finish, acknowledging, acking_if, on_tell, participant_timer, participant_step, restart_with, participant_restart}
use Rattle.joint.specs.State.{Site, holds, forced, started, with_participant, with_marked}
use Rattle.joint.specs.Plan.{newest, closed}
use Rattle.joint.proofs.Base.Booleans.{mp}
use Rattle.joint.proofs.View.View.{View, view_at, view_settle, view_effects, view_down}
use Rattle.joint.proofs.View.Turn.{Carried, Given, Own, Up, view_discard, view_start}
use Rattle.joint.proofs.Safety.Tables.{Status, working, prepared, gone, half, lone, shut, off, off_voted, off_shut, phase_of, Stage, is_up, stable_kinds, trail, Fine}
use Rattle.joint.proofs.Safety.Sets.{empty-none, belongs}
use Rattle.joint.proofs.Base.Lists.{each_append}
use Rattle.joint.proofs.Base.Survivors.{survivors_none}
use Rattle.joint.proofs.Safety.Invariant.{Standing, record_for, stage_of, sent_in, Place, Here, here, Inv}
use Rattle.joint.proofs.Safety.Holds.{holds_at}
use Rattle.joint.proofs.Safety.Participant.Rows.{of_status, settled, woken, dropped, heard, lands, row_test, on_row, step_at_lem, restart_at, force_at, crash_at, discard_at, mark_at}
use Rattle.joint.proofs.Safety.Participant.Local.{Elsewhere, AllProper, reach_phase, reach_force, reach_down, reach_started, reach_woken, reach_dropped}
use Rattle.joint.proofs.Safety.Participant.Places.{only_at, from_member, member-after, member_carried, from_stranger, stranger-after, stranger_carried, Middle, member_middle, stranger_middle}

-- ---- a participant's rows write records with its own fields, and send its own messages

-- P holds of the row, if there is one
abbrev OnRow : (Row ParticipantPhase → Type 0) → Option (Row ParticipantPhase) → Type 0
OnRow P none = Unit {0}
OnRow P (some r) = P r

module _ (g : Cohort) (p : ℕ) where
  -- its presumption
  abbrev c : Presumption
  c = presumption_of g p

  given_proper : (b : Bool) (es : List Effect) → AllProper g p es → AllProper g p (given b es)
  unfolding given
  given_proper true es h = h
  given_proper false es h = tt

  acking_proper : (o : Outcome) → AllProper g p (acking c p o)
  unfolding acking
  acking_proper o = given_proper (acks c o) (send (ack o) p ∷ []) (refl, tt)

  finish_proper : (forces : Bool) (o : Outcome) → AllProper g p (finish c p forces o).effects
  unfolding finish outcome_record
  finish_proper forces commit = (refl, each_append _ (given forces (force ∷ [])) _ (given_proper _ _ (tt, tt)) (tt, acking_proper commit))
  finish_proper forces abort = (refl, each_append _ (given forces (force ∷ [])) _ (given_proper _ _ (tt, tt)) (tt, acking_proper abort))

  -- the effects of the row, if there is one, are proper
  abbrev WellFormed : Option (Row ParticipantPhase) → Type 0
  WellFormed = OnRow (λ r. AllProper g p r.effects)

  prepare_proper : (k : Bool) (x : ParticipantPhase) → WellFormed (on_prepare c p k x)
  unfolding on_prepare first_vote promising voting
  prepare_proper true ParticipantPhase.working = (refl, tt)
  prepare_proper false ParticipantPhase.working = (refl, (tt, (refl, tt)))
  prepare_proper k ParticipantPhase.prepared = (refl, tt)
  prepare_proper k (ParticipantPhase.decided commit) = tt
  prepare_proper k (ParticipantPhase.decided abort) = (refl, tt)
  prepare_proper k ParticipantPhase.unknown = (refl, tt)

  if_proper : (b : Bool) (o : Outcome) → WellFormed (acking_if c p b o)
  unfolding acking_if acknowledging
  if_proper true o = acking_proper o
  if_proper false o = tt

  tell_proper : (o : Outcome) (x : ParticipantPhase) → WellFormed (on_tell c p o x)
  unfolding on_tell acknowledging
  tell_proper commit ParticipantPhase.working = tt
  tell_proper abort ParticipantPhase.working = finish_proper (acks c abort) abort
  tell_proper commit ParticipantPhase.prepared = finish_proper (acks c commit) commit
  tell_proper abort ParticipantPhase.prepared = finish_proper (acks c abort) abort
  tell_proper commit (ParticipantPhase.decided d) = if_proper (same_outcome commit d) commit
  tell_proper abort (ParticipantPhase.decided d) = if_proper (same_outcome abort d) abort
  tell_proper commit ParticipantPhase.unknown = acking_proper commit
  tell_proper abort ParticipantPhase.unknown = acking_proper abort

  timer_proper : (x : ParticipantPhase) → WellFormed (participant_timer c p x)
  unfolding participant_timer voting
  timer_proper ParticipantPhase.working = (tt, tt)
  timer_proper ParticipantPhase.prepared = (refl, tt)
  timer_proper (ParticipantPhase.decided o) = tt
  timer_proper ParticipantPhase.unknown = tt

  step_proper : (k : Bool) (i : Input) (x : ParticipantPhase) → WellFormed (participant_step c p k i x)
  unfolding participant_step
  step_proper k begin x = tt
  step_proper k timer x = timer_proper x
  step_proper k (received prepare q) x = prepare_proper k x
  step_proper k (received vote_yes q) x = tt
  step_proper k (received vote_no q) x = tt
  step_proper k (received read_only q) x = tt
  step_proper k (received (tell o) q) x = tell_proper o x
  step_proper k (received (ack o) q) x = tt

  restart_proper : (a b d : Bool) → AllProper g p (restart_with c p a b d).effects
  unfolding restart_with voting
  restart_proper true b d = (tt, tt)
  restart_proper false true d = (tt, tt)
  restart_proper false false true = (refl, tt)
  restart_proper false false false = tt

  returned_proper : (f : ℕ → Bool) → AllProper g p (participant_restart c p f).effects
  unfolding participant_restart
  returned_proper f = restart_proper (f 6) (f 7) (f 5)

-- ---- at a member the tests apply

module _ {t : ℕ} {m : Stage} {n : ℕ} {v : View} (x : Here true t m n v) where
  -- its presumption
  abbrev presumption : Presumption
  presumption = presumption_of v.transaction.cohort (suc n)

  -- whether it is marked
  abbrev mark : Bool
  mark = v.transaction.marked (suc n)

  is_up_lem : {b : Bool} → (v.site (suc n)).up ≡ b → is_up x.status ≡ b
  is_up_lem u = sym (ap (λ (z : Site). z.up) x.stands.site) ∙ u

  discard_passed : Up v (suc n) → closed (v.site (suc n)).stable ≡ true → T (lands presumption mark timer x.status (dropped (of_status x.status)))
  discard_passed u e =
      mp (closed (map (record_for v.transaction.cohort 0 t (suc n)) (stable_kinds x.status))) _
      (mp (is_up x.status) _ (discard_at v.transaction.cohort t (suc n) presumption mark x.status) (of_true (is_up_lem u)))
      (of_true (sym (ap (λ (z : Site). closed z.stable) x.stands.site) ∙ e))

  step_passed : {row : Row ParticipantPhase} (i : Input) → Up v (suc n) → participant_step presumption (suc n) mark i (v.transaction.participant (suc n)) ≡ some row
      → T (row_test presumption mark i x.status settled row)
  step_passed i u e =
      subst (λ (o : Option (Row ParticipantPhase)). T (on_row (row_test presumption mark i x.status settled) o))
      (ap (participant_step presumption (suc n) mark i) (sym x.stands.phase) ∙ e)
      (mp (is_up x.status) _ (step_at_lem presumption mark (suc n) x.status i) (of_true (is_up_lem u)))

  restart_passed : {row : Row ParticipantPhase} → (v.site (suc n)).up ≡ false
      → participant_restart presumption (suc n) (λ k. holds t k (v.site (suc n)).stable) ≡ row → T (row_test presumption mark timer x.status woken row)
  restart_passed u e =
      subst (λ (r : Row ParticipantPhase). T (row_test presumption mark timer x.status woken r))
      (ap (participant_restart presumption (suc n)) (sym (fun_ext (holds_at _ 0 t (suc n) _ x.stands.site))) ∙ e)
      (mp (not (is_up x.status)) _ (restart_at presumption mark (suc n) x.status) (of_true (ap not (is_up_lem u))))

heard_given : (v : View) (p : ℕ) (i : Input) → Given v i → Own p i → T (heard i (sent_in v p))
heard_given v p begin g o = tt
heard_given v p timer g o = tt
heard_given v p (received m q) g o = subst (λ (z : ℕ). T (sent_in v z m)) o g.1

-- the one status that works
working_status : (s : Status) → phase_of s ≡ ParticipantPhase.working → s ≡ working
working_status s e = go s (sym (ap is_working e))
  where
    is_working : ParticipantPhase → Bool
    is_working ParticipantPhase.working = true
    is_working ParticipantPhase.prepared = false
    is_working (ParticipantPhase.decided o) = false
    is_working ParticipantPhase.unknown = false

    go : (s : Status) → true ≡ is_working (phase_of s) → s ≡ working
    go working q = refl
    go prepared q = absurd (true≢false q)
    go gone q = absurd (true≢false q)
    go (half o) q = absurd (true≢false q)
    go lone q = absurd (true≢false q)
    go (shut o f) q = absurd (true≢false q)
    go off q = absurd (true≢false q)
    go off_voted q = absurd (true≢false q)
    go (off_shut o f) q = absurd (true≢false q)

eqb-suc : (j n : ℕ) → eqb (suc j) (suc n) ≡ eqb j n
eqb-suc j n = go (eqb j n) refl
  where
    go : (b : Bool) → eqb j n ≡ b → eqb (suc j) (suc n) ≡ b
    go true e = eq-eqb (suc j) (suc n) (ap suc (eqb-true j n e))
    go false e = ne_eqb (suc j) (suc n) (λ q. eqb-false j n e (omega (arith, q)))

-- ---- at a stranger nothing happens

none_restarts : (c : Presumption) (p t : ℕ) → participant_restart c p (λ k. holds t k []) ≡ record { effects = []; phase = ParticipantPhase.unknown }
unfolding participant_restart restart_with holds any
none_restarts c p t = refl

none-closes : closed [] ≡ false
unfolding closed newest
none-closes = refl

-- ---- the events

module _ (t : ℕ) (h : Standing) (v : View) (inv : Inv t h v) where
  -- a participant that is a member (b), or none
  abbrev Moves : ℕ → View → Bool → Type 0
  Moves n w b = belongs v.transaction.cohort n ≡ b → Here b t (stage_of h (suc n)) n v → Elsewhere (suc n) v w × Here b t (stage_of h (suc n)) n w

  either : (n : ℕ) {w : View} → ((b : Bool) → Moves n w b) → Inv t h w
  either n f = only_at inv n (f (belongs v.transaction.cohort n) refl (here inv.mid n))

  pub force_kept : (n : ℕ) → Inv t h (view_at (suc n) forced v)
  force_kept n = either n go
    where
      go : (b : Bool) → Moves n (view_at (suc n) forced v) b
      go true e x = member-after timer x tt (force_at _ (v.transaction.marked (suc n)) x.status) (reach_force t (suc n) v (from_member x))
      go false e x = stranger-after refl x (reach_force t (suc n) v (from_stranger x))

  pub crash_kept : (n k : ℕ) → Inv t h (view_down (suc n) k v)
  crash_kept n k = either n go
    where
      go : (b : Bool) → Moves n (view_down (suc n) k v) b
      go true e x = member-after timer x tt (crash_at _ (v.transaction.marked (suc n)) x.status k) (reach_down t n v k (from_member x))
      go false e x = stranger-after (survivors_none k) x (reach_down t n v k (from_stranger x))

  pub start_kept : (n : ℕ) → empty v.transaction.cohort.members ≡ true → Inv t h (view_at (suc n) started v)
  start_kept n u = either n go
    where
      go : (b : Bool) → Moves n (view_at (suc n) started v) b
      go true e x = absurd (empty-none v.transaction.cohort.members (suc n) (of_true u) (of_true e))
      go false e x = stranger-after refl x (reach_started t n v (from_stranger x))

  module _ {row : Row ParticipantPhase} (n : ℕ) (i : Input) (k : T (member (suc n) v.transaction.cohort.members)) (u : Up v (suc n))
      (e : participant_step (presumption_of v.transaction.cohort (suc n)) (suc n) (v.transaction.marked (suc n)) i (v.transaction.participant (suc n)) ≡ some row) where
    proper : AllProper v.transaction.cohort (suc n) row.effects
    proper = subst (WellFormed v.transaction.cohort (suc n)) e (step_proper v.transaction.cohort (suc n) (v.transaction.marked (suc n)) i (v.transaction.participant (suc n)))

    pub row_kept : {w : View} → Given v i → Own (suc n) i → Carried t (suc n) row.effects (view_settle (with_participant (suc n) row.phase)) v w → Inv t h w
    row_kept {w} d o c = either n go
      where
        go : (b : Bool) → Moves n w b
        go true q x = member_carried i x (heard_given v (suc n) i d o) proper settled _ (λ y z r. reach_phase t (suc n) v row.phase r) (step_passed x i u e) c
        go false q x = absurd (true≢false (sym (true_of (belongs v.transaction.cohort n) k) ∙ q))

    pub row_middle : (a : ℕ) → Middle t n v (view_effects (suc n) t (take a row.effects) v)
    row_middle a = go (belongs v.transaction.cohort n) refl (here inv.mid n)
      where
        go : (b : Bool) → belongs v.transaction.cohort n ≡ b → Here b t (stage_of h (suc n)) n v → Middle t n v (view_effects (suc n) t (take a row.effects) v)
        go true q x = member_middle row i x proper settled (step_passed x i u e) a
        go false q x = absurd (true≢false (sym (true_of (belongs v.transaction.cohort n) k) ∙ q))

  pub discard_kept : (n : ℕ) → Up v (suc n) → closed (v.site (suc n)).stable ≡ true → Inv t h (view_discard (suc n) v)
  discard_kept n u c = either n go
    where
      go : (b : Bool) → Moves n (view_discard (suc n) v) b
      go true e x = member-after timer x tt (discard_passed x u c) (reach_dropped t n v (from_member x))
      go false e x = absurd (true≢false (sym c ∙ ap closed x.stands.stable ∙ none-closes))

  module _ {row : Row ParticipantPhase} (n : ℕ) (u : (v.site (suc n)).up ≡ false)
      (e : participant_restart (presumption_of v.transaction.cohort (suc n)) (suc n) (λ k. holds t k (v.site (suc n)).stable) ≡ row) where
    returned : AllProper v.transaction.cohort (suc n) row.effects
    returned = subst (λ (r : Row ParticipantPhase). AllProper v.transaction.cohort (suc n) r.effects) e (returned_proper v.transaction.cohort (suc n) _)

    -- a stranger's row has no effect
    none_left : Here false t (stage_of h (suc n)) n v → row ≡ record { effects = []; phase = ParticipantPhase.unknown }
    none_left x =
        sym e
        ∙ ap (λ (l : List LogRecord). participant_restart (presumption_of v.transaction.cohort (suc n)) (suc n) (λ k. holds t k l)) x.stands.stable
        ∙ none_restarts _ (suc n) t

    pub return_kept : {w : View} → Carried t (suc n) row.effects (view_start (suc n) (with_participant (suc n) row.phase)) v w → Inv t h w
    return_kept {w} c = either n go
      where
        go : (b : Bool) → Moves n w b
        go true q x = member_carried timer x tt returned woken _ (λ y z r. reach_woken t n v row.phase r) (restart_passed x u e) c
        go false q x =
            stranger_carried x
            (subst (λ (r : Row ParticipantPhase). Carried t (suc n) r.effects (view_start (suc n) (with_participant (suc n) r.phase)) v w) (none_left x) c)

    pub return_middle : (a : ℕ) → Middle t n v (view_effects (suc n) t (take a row.effects) v)
    return_middle a = go (belongs v.transaction.cohort n) (here inv.mid n)
      where
        go : (b : Bool) → Here b t (stage_of h (suc n)) n v → Middle t n v (view_effects (suc n) t (take a row.effects) v)
        go true x = member_middle row timer x returned woken (restart_passed x u e) a
        go false x = subst (λ (r : Row ParticipantPhase). Middle t n v (view_effects (suc n) t (take a r.effects) v)) (sym (none_left x)) (stranger_middle x a)

  -- ---- a mark: of one that works

  marked_edge : (n : ℕ) → v.transaction.participant (suc n) ≡ ParticipantPhase.working → T (belongs v.transaction.cohort n) → (j : ℕ) (b : Bool) → eqb j n ≡ b
      → T (belongs v.transaction.cohort j)
      → Fine (presumption_of v.transaction.cohort (suc j)) (b || v.transaction.marked (suc j)) (stage_of h (suc j)) (inv.mid.status j) (sent_in v (suc j)) (v.entered (suc j)) (v.voted (suc j))
  marked_edge n e m j false q k = inv.mid.fine j k
  marked_edge n e m j true q k =
      let f = inv.mid.fine j k in
      record {
        shape = f.shape;
        messages = f.messages;
        entries = f.entries;
        counted = f.counted;
        honest = f.honest;
        looked = works (inv.mid.status j) phase (sent_in v (suc j) vote_yes) (sent_in v (suc j) read_only) f.looked;
      }
    where
      phase : phase_of (inv.mid.status j) ≡ ParticipantPhase.working
      phase =
          sym (member-phase (belongs v.transaction.cohort j) k (inv.mid.stands j))
          ∙ ap (λ (i : ℕ). v.transaction.participant (suc i)) (eqb-true j n q) ∙ e
        where
          member-phase : (b : Bool) → T b → Place b t j (inv.mid.status j) v → v.transaction.participant (suc j) ≡ phase_of (inv.mid.status j)
          member-phase true u x = x.phase
          member-phase false u x = absurd u

      works : (s : Status) → phase_of s ≡ ParticipantPhase.working → (y r : Bool) → T (trail s (v.transaction.marked (suc j)) y r) → T (trail s true y r)
      works s e y r u =
          subst (λ (z : Status). T (trail z true y r)) (sym (working_status s e)) (mark_at (v.transaction.marked (suc j)) y r (subst (λ (z : Status). T (trail z (v.transaction.marked (suc j)) y r)) (working_status s e) u))

  pub mark_kept : (n : ℕ) → T (member (suc n) v.transaction.cohort.members) → v.transaction.participant (suc n) ≡ ParticipantPhase.working
      → Inv t h (view_settle (with_marked (suc n)) v)
  unfolding view_settle with_marked
  mark_kept n m e =
      record {
        mid =
            record {
              sound = inv.mid.sound;
              log = inv.mid.log;
              entries = inv.mid.entries;
              votes = record { looked = inv.mid.votes.looked; said = inv.mid.votes.said };
              status = inv.mid.status;
              stands = λ j. place_marked j (belongs v.transaction.cohort j) (inv.mid.stands j);
              fine = λ j k. rw (eqb-suc j n) (marked_edge n e m j (eqb j n) refl k);
            };
        phase = inv.phase;
        whole = inv.whole;
      }
    where
      place_marked : (j : ℕ) (b : Bool) → Place b t j (inv.mid.status j) v → Place b t j (inv.mid.status j) (view_settle (with_marked (suc n)) v)
      place_marked j true x = unfold view_settle with_marked in record { site = x.site; phase = x.phase }
      place_marked j false x = unfold view_settle with_marked in record { stable = x.stable; unforced = x.unforced; sent = x.sent; entered = x.entered }
