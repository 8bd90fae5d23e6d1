-- Each row of the coordinator, whole or cut, keeps the invariant.
use Prim.Native.Nat.{ℕ, zero, suc}
use mathlib.Core.Logic.{⊎_elim}
use mathlib.Core.Path.{◌≡◌, refl, sym, ap, ◌∙◌, subst}
use mathlib.Core.Bool.{Bool, true, false, not, ◌&&◌, ◌||◌, true≢false}
use mathlib.Core.List.{[]}
use mathlib.Core.Option.{none, some, none-ne-some, some-injective}
use lib.Dec.{T, eqb}
use borrow.Author.Tests.{eqb-true}
use Rattle.codec.specs.Lists.{only_if}
use Rattle.codec.specs.Sets.{member, empty, without}
use Rattle.codec.specs.Laws.Tests.{true_of, of_true}
use Rattle.site.specs.Presumption.{Outcome, commit, abort, same_outcome, silence}
use Rattle.site.specs.Cohort.{Cohort, remaining, presumption_of, owing, writes_init}
use Rattle.site.specs.Step.{prepare, vote_yes, vote_no, read_only, tell, ack, Input, begin, timer, received, Row}
use Rattle.site.specs.Coordinator.{CoordinatorPhase, Coordinator, until_acked, preparing, on_begin, committing, voted, counting, on_yes, telling, aborting, on_no, coordinator_timer, taking_out, on_read_only, acked, acked_if, on_ack, leaving, leaving_if, coordinator_step, tell_all}
use Rattle.joint.specs.State.{Site, with_coordinator}
use Rattle.joint.proofs.Base.Booleans.{or_left, or_right, both_ways, of_false}
use Rattle.joint.proofs.View.View.{View, view_settle}
use Rattle.joint.proofs.View.Turn.{Given, Up, Opened}
use Rattle.joint.proofs.Safety.Sets.{owing-member, no_zero, not-empty, owes_abort, without-part, member-without, remains_or_out, owing-remaining}
use Rattle.joint.proofs.Safety.Invariant.{Log, kinds_in, waiting, resting, down, Standing, never, initial, collecting, decided, told_of, init_log, between, site_with, sent_in, Mid, PhaseAs, Inv, cohort_of}
use Rattle.joint.proofs.Safety.Coordinator.Logs.{commit_log}
use Rattle.joint.proofs.Safety.Coordinator.Runs.{Node, Runs, Leads, node_stay, row_leads, node_start}
use Rattle.joint.proofs.Safety.Coordinator.Commits.{begin_run, commit_run}
use Rattle.joint.proofs.Safety.Coordinator.Ends.{vanish_run, abort_run, end_run, tell_run, tell_all_run, reply_run}
use Rattle.joint.proofs.Safety.Coordinator.Shifts.{awaited, counts, takes, hears, settled_as, settled_phase, settled_between}
use Rattle.joint.proofs.Safety.Outcomes.{same_outcome_lem}
use Rattle.joint.proofs.Safety.Coordinator.Steps.{still_owed, stay}

-- ---- where a step leads

-- a row from the standing h
abbrev pub RowLeads : ℕ → View → Row Coordinator → Standing → Type 0
RowLeads t v row h = Leads t h v row.effects (view_settle (with_coordinator 0 row.phase))

-- a read-only vote that comes while votes are collected takes its sender out first
pub data Stepped (t : ℕ) (v : View) (row : Row Coordinator) : Standing → Input → Type 0 where
  steps : {h : Standing} {i : Input} → RowLeads t v row h → Stepped t v row h i
  looks : {c out : ℕ} (p : ℕ) → RowLeads t v row (collecting (without p c) (taking_out p out) false) → Stepped t v row (collecting c out false) (received read_only p)

-- ---- the row that a step gives

no_row {ℓ} : {A : Type ℓ} {row : Row Coordinator} → none ≡ some row → A
no_row {row} e = absurd (none-ne-some row e)

module _ (t : ℕ) (v : View) (row : Row Coordinator) where
  abbrev To : Standing → Type 0
  To h = RowLeads t v row h

  -- a row, with the set taken out after it
  row_done : {h : Standing} (out : ℕ) (r : Row CoordinatorPhase) → leaving_if out (some r) ≡ some row → (h' : Standing) → Runs t h v r.effects h'
      → PhaseAs h' (record { phase = r.phase; taken_out = out }) → T (between h') → To h
  unfolding leaving_if leaving
  row_done {h} out r e h' x p b =
      subst (λ (y : Row Coordinator). RowLeads t v y h) (some-injective _ row e) (row_leads t h r.effects h' (record { phase = r.phase; taken_out = out }) x p b)

  abbrev g : Cohort
  g = cohort_of v

  -- no row
  none_left {ℓ} : {A : Type ℓ} (out : ℕ) → leaving_if out none ≡ some row → A
  unfolding leaving_if
  none_left out e = no_row e

  -- ---- Open

  begin_next : Mid t (initial false) v → Opened v → leaving_if 0 (some (preparing t g (writes_init g))) ≡ some row → To (initial false)
  unfolding preparing
  begin_next mid o e =
      row_done 0 (preparing t g (writes_init g)) e (collecting g.members 0 false) (begin_run t (initial false) v (node_start mid)) refl (of_false o)

  initial_next : Mid t (initial false) v → Opened v → (i : Input) → coordinator_step t g i (record { phase = CoordinatorPhase.initial; taken_out = 0 }) ≡ some row → To (initial false)
  unfolding coordinator_step on_begin coordinator_timer on_yes on_no on_read_only on_ack
  initial_next mid o begin e = begin_next mid o e
  initial_next mid o timer e = none_left 0 e
  initial_next mid o (received prepare p) e = no_row e
  initial_next mid o (received vote_yes p) e = none_left 0 e
  initial_next mid o (received vote_no p) e = none_left 0 e
  initial_next mid o (received read_only p) e = none_left (taking_out p 0) e
  initial_next mid o (received (tell a) p) e = no_row e
  initial_next mid o (received (ack a) p) e = none_left 0 e

  -- ---- Collecting

  module _ (c out : ℕ) (mid : Mid t (collecting c out false) v) where
    abbrev here : Standing
    here = collecting c out false

    -- a vote was counted; nobody remains (a), or no vote is missing (b)
    voted_next : (h0 : Standing) (x after : ℕ) → Node t h0 v (collecting x after false) → (a b : Bool) → empty (remaining g after).members ≡ a → empty x ≡ b
        → leaving_if after (some (voted t g after a b x)) ≡ some row → To h0
    unfolding voted committing
    voted_next h0 x after counted true b q z e =
        row_done after (voted t g after true b x) e (decided abort after (resting (writes_init g)) (init_log (writes_init g)))
        (unfold voted in vanish_run t h0 v x after (of_true q) (writes_init g) refl counted) (unfold voted in refl) tt
    voted_next h0 x after counted false false q z e =
        row_done after (voted t g after false false x) e (collecting x after false) (unfold voted in counted) (unfold voted in refl) (of_false z)
    voted_next h0 x after counted false true q z e =
        row_done after (voted t g after false true x) e (settled_as last false commit after (owing (remaining g after) commit) (commit_log (writes_init g)))
        (unfold voted in commit_run t h0 v after x (of_true z) (of_false q) last refl counted) phase
        (settled_between last false commit after (owing (remaining g after) commit) (commit_log (writes_init g)) refl)
      where
        last : Bool
        last = empty (owing (remaining g after) commit)

        phase : PhaseAs (settled_as last false commit after (owing (remaining g after) commit) (commit_log (writes_init g))) (record { phase = (voted t g after false true x).phase; taken_out = after })
        phase = go last refl
          where
            go : (l : Bool) → empty (owing (remaining g after) commit) ≡ l
                → PhaseAs (settled_as l false commit after (owing (remaining g after) commit) (commit_log (writes_init g))) (record { phase = (voted t g after false true x).phase; taken_out = after })
            go true q = unfold voted committing in settled_phase true false commit after (owing (remaining g after) commit) (commit_log (writes_init g)) q
            go false q = unfold voted committing in settled_phase false false commit after (owing (remaining g after) commit) (commit_log (writes_init g)) q

    abbrev counting-row : ℕ → ℕ → Row CoordinatorPhase
    counting-row x after = voted t g after (empty (remaining g after).members) (empty x) x

    -- one that is taken out has no more rows
    unless_out : (h0 : Standing) (p after : ℕ) (r : Row CoordinatorPhase) (b : Bool) → member p out ≡ b → leaving_if after (only_if (not b) r) ≡ some row
        → (leaving_if after (some r) ≡ some row → To h0) → To h0
    unfolding only_if
    unless_out h0 p after r true q e f = none_left after e
    unless_out h0 p after r false q e f = f e

    yes_next : (p : ℕ) → T (sent_in v p vote_yes) → leaving_if out (only_if (not (member p out)) (counting-row (without p c) out)) ≡ some row → To here
    yes_next p y e =
        unless_out here p out (counting-row (without p c) out) (member p out) refl e
        (λ k. voted_next here (without p c) out (node_stay t here (node_start mid) (counts v p c out mid y) refl) (empty (remaining g out).members) (empty (without p c)) refl refl k)

    -- record 1, if there is one, has the masks as opened
    same_init : (j : Bool) (after : ℕ) → site_with g out t 0 true (kinds_in (init_log j)) [] ≡ site_with g after t 0 true (kinds_in (init_log j)) []
    same_init true after = refl
    same_init false after = refl

    look_next : (p : ℕ) → T (sent_in v p read_only)
        → leaving_if (taking_out p out) (only_if (not (member p out)) (counting-row (without p c) (taking_out p out))) ≡ some row → To (collecting (without p c) (taking_out p out) false)
    look_next p y e =
        let after = taking_out p out in
        unless_out (collecting (without p c) after false) p after (counting-row (without p c) after) (member p out) refl e
        (λ k. voted_next (collecting (without p c) after false) (without p c) after (node_start (stay mid (takes v p c out mid y) (λ o u. u) (same_init (writes_init g) after))) (empty (remaining g after).members) (empty (without p c)) refl refl k)

    abort_next : (to : ℕ) → ((q : ℕ) → T (member q to) → T (member q (remaining g out).members))
        → ((n : ℕ) → T (member (suc n) g.members) → T (not (member (suc n) to)) → T (sent_in v (suc n) vote_no || sent_in v (suc n) read_only))
        → leaving_if out (some (aborting t (remaining g out) (writes_init g) to)) ≡ some row → To here
    unfolding aborting
    abort_next to part said e =
        row_done out (aborting t (remaining g out) (writes_init g) to) e (settled_as none_awaited (writes_init g) abort out (awaited g out to) (init_log (writes_init g)))
        (abort_run t here v to c out part said (node_start mid)) phase
        (settled_between none_awaited (writes_init g) abort out (awaited g out to) (init_log (writes_init g)) refl)
      where
        none_awaited : Bool
        none_awaited = empty (awaited g out to)

        phase : PhaseAs (settled_as none_awaited (writes_init g) abort out (awaited g out to) (init_log (writes_init g))) (record { phase = until_acked abort (awaited g out to); taken_out = out })
        phase = go none_awaited refl
          where
            go : (l : Bool) → empty (awaited g out to) ≡ l
                → PhaseAs (settled_as l (writes_init g) abort out (awaited g out to) (init_log (writes_init g))) (record { phase = until_acked abort (awaited g out to); taken_out = out })
            go true q = settled_phase true (writes_init g) abort out (awaited g out to) (init_log (writes_init g)) q
            go false q = settled_phase false (writes_init g) abort out (awaited g out to) (init_log (writes_init g)) q

    -- a member is told, or it has said No (it is p), or it only looked
    left_out : (p n : ℕ) → T (sent_in v p vote_no) → T (member (suc n) g.members) → T (not (member (suc n) (without p (remaining g out).members)))
        → T (sent_in v (suc n) vote_no || sent_in v (suc n) read_only)
    left_out p n nay m u =
        ⊎_elim
        (λ k. or_left (sent_in v (suc n) vote_no) (sent_in v (suc n) read_only) (subst (λ (q : ℕ). T (sent_in v q vote_no)) (sym (is_p k)) nay))
        (λ k. or_right (sent_in v (suc n) vote_no) (sent_in v (suc n) read_only) (mid.votes.looked n k)) (remains_or_out g out mid.sound.byte n m)
      where
        go : (b : Bool) → T (not (true && not b)) → b ≡ true
        go true k = refl
        go false k = absurd k

        is_p : T (member (suc n) (remaining g out).members) → suc n ≡ p
        is_p k =
            eqb-true (suc n) p
            (go (eqb (suc n) p)
            (subst (λ (b : Bool). T (not b))
            (member-without p (remaining g out).members n g.members mid.sound.byte m ∙ ap (λ (b : Bool). b && not (eqb (suc n) p)) (true_of (member (suc n) (remaining g out).members) k)) u))

    -- all that remain but p, who said No
    no_next : (p : ℕ) → T (sent_in v p vote_no)
        → leaving_if out (only_if (not (member p out)) (aborting t (remaining g out) (writes_init g) (without p (remaining g out).members))) ≡ some row → To here
    no_next p nay e =
        unless_out here p out (aborting t (remaining g out) (writes_init g) (without p (remaining g out).members)) (member p out) refl e
        (λ k. abort_next (without p (remaining g out).members) (without-part p (remaining g out).members (remaining g out).members (λ q m. m)) (λ n m u. left_out p n nay m u) k)

    -- all that remain
    timer_next : leaving_if out (some (aborting t (remaining g out) (writes_init g) (remaining g out).members)) ≡ some row → To here
    timer_next e =
        abort_next (remaining g out).members (λ q m. m)
        (λ n m u.
        ⊎_elim (λ k. absurd (both_ways (member (suc n) (remaining g out).members) k u)) (λ k. or_right (sent_in v (suc n) vote_no) (sent_in v (suc n) read_only) (mid.votes.looked n k))
        (remains_or_out g out mid.sound.byte n m)) e

    collecting_next : (i : Input) → Given v i → coordinator_step t g i (record { phase = CoordinatorPhase.collecting c; taken_out = out }) ≡ some row → Stepped t v row here i
    unfolding coordinator_step on_begin coordinator_timer on_yes on_no on_read_only on_ack counting
    collecting_next begin k e = none_left out e
    collecting_next timer k e = steps (timer_next e)
    collecting_next (received prepare p) k e = no_row e
    collecting_next (received vote_yes p) k e = steps (yes_next p k.1 e)
    collecting_next (received vote_no p) k e = steps (no_next p k.1 e)
    collecting_next (received read_only p) k e = looks p (look_next p k.1 e)
    collecting_next (received (tell a) p) k e = no_row e
    collecting_next (received (ack a) p) k e = none_left out e

  -- ---- Committing, Aborting; x: the set taken out, which nothing reads any more

  module _ (o : Outcome) (out c : ℕ) (l : Log) (mid : Mid t (decided o out (waiting c) l) v) (some_left : T (not (empty c))) (x : ℕ) where
    abbrev waits : Standing
    waits = decided o out (waiting c) l

    -- those waited for owe an ack
    owed : (n : ℕ) → T (member (suc n) c) → T (member (suc n) (owing g o))
    owed n k = go o (mid.sound.sets.1 (suc n) k)
      where
        go : (d : Outcome) → T (member (suc n) (owing (told_of g out d) d)) → T (member (suc n) (owing g d))
        go commit u = (owing-remaining g out commit n u).1
        go abort u = u

    -- so they are members
    waits_part : (q : ℕ) → T (member q c) → T (member q g.members)
    waits_part zero k = absurd (no_zero c k)
    waits_part (suc n) k = (owing-member g o n (owed n k)).0

    init_written : (d : Outcome) → o ≡ d → T (writes_init g || same_outcome d commit)
    unfolding same_outcome
    init_written commit e = or_right (writes_init g) true tt
    init_written abort e =
        or_left (writes_init g) false
        (not-empty c g.presume_commit mid.sound.sets.0 some_left (λ n k. owes_abort g n (subst (λ (x : Outcome). T (member (suc n) (owing g x))) e (owed n k))))

    heard_next : (p : ℕ) → T (sent_in v p (ack o)) → (b : Bool) → empty (without p c) ≡ b → leaving_if x (some (acked o b (without p c))) ≡ some row → To waits
    unfolding acked
    heard_next p a false q e =
        row_done x (acked o false (without p c)) e (decided o out (waiting (without p c)) l) (node_stay t waits (node_start mid) (hears v o out l p c mid a) refl) refl (of_false q)
    heard_next p a true q e =
        row_done x (acked o true (without p c)) e (decided o out (resting true) l)
        (end_run t waits v o out (without p c) l (of_true q) (init_written o refl) (still_owed o out c l mid some_left) (node_stay t waits (node_start mid) (hears v o out l p c mid a) refl)) refl tt

    acked_next : (a : Outcome) (p : ℕ) → T (sent_in v p (ack a)) → (b : Bool) → same_outcome a o ≡ b → leaving_if x (acked_if b o (without p c)) ≡ some row → To waits
    unfolding acked_if
    acked_next a p k false q e = none_left x e
    acked_next a p k true q e =
        heard_next p (subst (λ (x : Outcome). T (sent_in v p (ack x))) (same_outcome_lem a o (of_true q)) k) (empty (without p c)) refl e

    -- to a member, or to all that are waited for
    tell_next : (p : ℕ) → T (member p g.members) → leaving_if x (some (telling o p (CoordinatorPhase.awaiting_acks o c))) ≡ some row → To waits
    unfolding telling
    tell_next zero m e = absurd (no_zero g.members m)
    tell_next (suc n) m e =
        row_done x (telling o (suc n) (CoordinatorPhase.awaiting_acks o c)) e waits (tell_run t waits v o out (waiting c) l (CoordinatorPhase.awaiting_acks o c) n m (node_start mid)) refl some_left

    waiting_next : (i : Input) → Given v i → coordinator_step t g i (record { phase = CoordinatorPhase.awaiting_acks o c; taken_out = x }) ≡ some row → To waits
    unfolding coordinator_step on_begin coordinator_timer on_yes on_no on_read_only on_ack
    waiting_next begin k e = none_left x e
    waiting_next timer k e =
        row_done x (record { effects = tell_all t g o c; phase = CoordinatorPhase.awaiting_acks o c }) e waits
        (tell_all_run t waits v o out (waiting c) l c waits_part (node_start mid)) refl some_left
    waiting_next (received prepare p) k e = no_row e
    waiting_next (received vote_yes p) k e = tell_next p k.0 e
    waiting_next (received vote_no p) k e = none_left x e
    waiting_next (received read_only p) k e = none_left (taking_out p x) e
    waiting_next (received (tell a) p) k e = no_row e
    waiting_next (received (ack a) p) k e = acked_next a p k.1 (same_outcome a o) refl e

  -- ---- Unknown

  module _ (o : Outcome) (out : ℕ) (b : Bool) (l : Log) (mid : Mid t (decided o out (resting b) l) v) (x : ℕ) where
    reply_next : (p : ℕ) → T (member p g.members) → T (sent_in v p vote_yes)
        → leaving_if x (some (telling (silence (presumption_of g p)) p CoordinatorPhase.unknown)) ≡ some row → To (decided o out (resting b) l)
    unfolding telling
    reply_next zero m y e = absurd (no_zero g.members m)
    reply_next (suc n) m y e =
        row_done x (telling (silence (presumption_of g (suc n))) (suc n) CoordinatorPhase.unknown) e (decided o out (resting b) l) (reply_run t (decided o out (resting b) l) v o out b l CoordinatorPhase.unknown n m y (node_start mid)) refl tt

    unknown_next : (i : Input) → Given v i → coordinator_step t g i (record { phase = CoordinatorPhase.unknown; taken_out = x }) ≡ some row → To (decided o out (resting b) l)
    unfolding coordinator_step on_begin coordinator_timer on_yes on_no on_read_only on_ack
    unknown_next begin k e = none_left x e
    unknown_next timer k e = none_left x e
    unknown_next (received prepare p) k e = no_row e
    unknown_next (received vote_yes p) k e = reply_next p k.0 k.1 e
    unknown_next (received vote_no p) k e = none_left x e
    unknown_next (received read_only p) k e = none_left (taking_out p x) e
    unknown_next (received (tell a) p) k e = no_row e
    unknown_next (received (ack a) p) k e = none_left x e

  -- ---- all phases

  -- the coordinator's part, by its phase
  with_phase : {A : Type 0} (i : Input) (c : Coordinator) (p : CoordinatorPhase) → c.phase ≡ p → coordinator_step t g i c ≡ some row
      → (coordinator_step t g i (record { phase = p; taken_out = c.taken_out }) ≡ some row → A) → A
  with_phase i c p q e f = f (subst (λ (z : CoordinatorPhase). coordinator_step t g i (record { phase = z; taken_out = c.taken_out }) ≡ some row) q e)

  phase_next : (h : Standing) → Mid t h v → T (between h) → Opened v → Up v 0 → (i : Input) → Given v i → (c : Coordinator) → PhaseAs h c
      → coordinator_step t g i c ≡ some row → Stepped t v row h i
  phase_next (never u) mid b o up i k c p e = absurd (true≢false (mid.sound.opened ∙ o))
  phase_next (initial true) mid b o up i k c p e = absurd b
  phase_next (initial false) mid b o up i k c p e = steps (initial_next mid o i (subst (λ (z : Coordinator). coordinator_step t g i z ≡ some row) p e))
  phase_next (collecting x out true) mid b o up i k c p e = absurd b
  phase_next (collecting x out false) mid b o up i k c p e = collecting_next x out mid i k (subst (λ (z : Coordinator). coordinator_step t g i z ≡ some row) p e)
  phase_next (decided r out (waiting x) l) mid b o up i k c p e = with_phase i c (CoordinatorPhase.awaiting_acks r x) p e (λ q. steps (waiting_next r out x l mid b c.taken_out i k q))
  phase_next (decided r out (resting x) l) mid b o up i k c p e = with_phase i c CoordinatorPhase.unknown p e (λ q. steps (unknown_next r out x l mid c.taken_out i k q))
  phase_next (decided r out down l) mid b o up i k c p e = absurd (true≢false (sym up ∙ ap (λ (s : Site). s.up) mid.log))

  pub coordinator_next : {h : Standing} → Inv t h v → Opened v → Up v 0 → (i : Input) → Given v i
      → coordinator_step t g i v.transaction.coordinator ≡ some row → Stepped t v row h i
  coordinator_next {h} inv o up i k e = phase_next h inv.mid inv.whole o up i k v.transaction.coordinator inv.phase e
