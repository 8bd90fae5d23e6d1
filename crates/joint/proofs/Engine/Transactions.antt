-- What the program's changes of a transaction do to what it stands for.
use Prim.Native.Nat.{ℕ, zero, suc, ◌+◌, ◌-◌, ◌≤◌, ◌<◌}
use mathlib.Core.Path.{◌≡◌, refl, sym, ◌∙◌, fun_ext}
use mathlib.Core.Bool.{Bool, true, false, cond, ◌&&◌, ◌||◌, and-true, and-false}
use mathlib.Core.List.{List, []}
use lib.ListN.{length, get_or, set}
use lib.Seq.{get_or-set_same, get_or-set_other}
use lib.Dec.{eqb, leb, ltb, eqb→eq}
use native.Mathlib.Omega.{arith}
use borrow.Author.Tests.{eqb-true, eqb-false, ltb-true, ltb-false, lt-ltb, le-ltb, le-leb, lt-leb}
use Rattle.codec.specs.Lists.{any}
use Rattle.codec.specs.Sets.{member, either}
use Rattle.codec.specs.Laws.Tests.{below_at}
use Rattle.codec.specs.Laws.Masks.{those-below, in_those}
use Rattle.codec.specs.Laws.Members.{no_participant, numbered, no_member}
use Rattle.site.specs.Presumption as outcomes
use Rattle.site.specs.Presumption.{commit, abort, same_outcome}
use Rattle.site.specs.Cohort.{Cohort}
use Rattle.site.specs.Step.{prepare, messages, message_kind, given}
use Rattle.site.specs.Coordinator as coordinator
use Rattle.site.specs.Coordinator.{ordered}
use Rattle.site.specs.Participant as participant
use Rattle.site.specs.Answers.{cohort_in, participant_in, has_kind, sending}
use Rattle.site.specs.declared.cohort.Cohort as declared
use Rattle.site.specs.declared.phases.CoordinatorPhase.TheVariants as phases
use Rattle.site.specs.declared.phases.ParticipantPhase.{ParticipantPhase}
use Rattle.site.specs.declared.phases.ParticipantPhase.TheVariants as held
use Rattle.site.specs.Laws.Order.{ordered-none}
use Rattle.joint.specs.State as plain
use Rattle.joint.specs.State.{update, with_participant, with_marked, with_entered, forgotten}
use Rattle.joint.specs.Plan.{opened_as}
use Rattle.joint.specs.Answers.{transaction_in, entered_in}
use Rattle.joint.specs.Inside.{transaction_after}
use Rattle.joint.specs.declared.transactions.Transaction.{Transaction}
use Rattle.joint.proofs.Base.Sends.{sent-each, any_ordered}
use Rattle.joint.proofs.Engine.Arrays.{stored}

transaction_path : {g : Cohort} {c : coordinator.Coordinator} {p p' : ℕ → participant.ParticipantPhase} {m : ℕ → Bool} {s s' : ℕ → ℕ → Bool} {e e' : ℕ → outcomes.Outcome → Bool}
    → p ≡ p' → s ≡ s' → e ≡ e'
    → ◌≡◌ {A = plain.Transaction} (record { cohort = g; coordinator = c; participant = p; marked = m; sent = s; entered = e }) (record { cohort = g; coordinator = c; participant = p'; marked = m; sent = s'; entered = e' })
transaction_path {g} {c} {m} p s e = λ i. record { cohort = g; coordinator = c; participant = p i; marked = m; sent = s i; entered = e i }

-- ---- by site

pub forgotten-participant : (x : plain.Transaction) (s : ℕ) → (s ≡ 0 → ⊥) → forgotten s x ≡ with_participant s participant.unknown x
unfolding forgotten plain.with_coordinator with_participant
forgotten-participant x zero h = absurd (h refl)
forgotten-participant x (suc n) h = refl

-- ---- a phase is stored

pub phase-stored : (x : Transaction) (i : ℕ) → i < length x.participants → (phase : ParticipantPhase)
    → transaction_in (record { part = x.part; taken_out = x.taken_out; participants = set x.participants i phase; marked = x.marked; sent = x.sent; committed = x.committed; aborted = x.aborted })
    ≡ with_participant i (participant_in phase) (transaction_in x)
unfolding transaction_in with_participant
phase-stored x i lt phase =
    transaction_path (stored participant_in (λ _. participant_in phase) x.participants i phase held.Unknown lt refl) refl refl

-- ---- a mark is stored

pub mark-stored : (x : Transaction) (p bits : ℕ) → ((k : ℕ) → has_kind bits k ≡ (eqb k p || has_kind x.marked k))
    → transaction_in (record { part = x.part; taken_out = x.taken_out; participants = x.participants; marked = bits; sent = x.sent; committed = x.committed; aborted = x.aborted })
    ≡ with_marked p (transaction_in x)
unfolding transaction_in with_marked
mark-stored x p bits e =
    let y = transaction_in x in
    λ i. record { cohort = y.cohort; coordinator = y.coordinator; participant = y.participant; marked = λ k. e k i; sent = y.sent; entered = y.entered }

-- ---- an outcome is entered

module _ (x : Transaction) (s bits : ℕ) where
  pub commit_entered : ((k : ℕ) → has_kind bits k ≡ (eqb k s || has_kind x.committed k))
      → transaction_in (record { part = x.part; taken_out = x.taken_out; participants = x.participants; marked = x.marked; sent = x.sent; committed = bits; aborted = x.aborted }) ≡ with_entered s commit (transaction_in x)
  unfolding transaction_in with_entered entered_in same_outcome
  commit_entered e = transaction_path refl refl (fun_ext (λ z. fun_ext (by z)))
    where
      by : (z : ℕ) (o : outcomes.Outcome) → entered_in bits x.aborted z o ≡ ((eqb z s && same_outcome o commit) || entered_in x.committed x.aborted z o)
      by z commit = e z ∙ rw and-true
      by z abort = rw and-false

  pub abort_entered : ((k : ℕ) → has_kind bits k ≡ (eqb k s || has_kind x.aborted k))
      → transaction_in (record { part = x.part; taken_out = x.taken_out; participants = x.participants; marked = x.marked; sent = x.sent; committed = x.committed; aborted = bits }) ≡ with_entered s abort (transaction_in x)
  unfolding transaction_in with_entered entered_in same_outcome
  abort_entered e = transaction_path refl refl (fun_ext (λ z. fun_ext (by z)))
    where
      by : (z : ℕ) (o : outcomes.Outcome) → entered_in x.committed bits z o ≡ ((eqb z s && same_outcome o abort) || entered_in x.committed x.aborted z o)
      by z commit = rw and-false
      by z abort = e z ∙ rw and-true

-- ---- a message of each of a set

or_comm : (a b : Bool) → (a || b) ≡ (b || a)
or_comm true true = refl
or_comm true false = refl
or_comm false true = refl
or_comm false false = refl

-- a union has the members of both
pub member-either : (q a b : ℕ) → a < 256 → b < 256 → member q (either a b) ≡ (member q a || member q b)
unfolding either
member-either q a b ha hb = by (no_participant q) refl
  where
    by : (n : Bool) → no_participant q ≡ n → member q (either a b) ≡ (member q a || member q b)
    by true n = rw (no_member q (either a b) (those-below _) n, no_member q a ha n, no_member q b hb n) refl
    by false n =
        let r = numbered q n in
        let e : suc (q - 1) ≡ q = omega (arith, r.0) in
        rw e at (in_those (λ p. member p a || member p b) (q - 1) (omega (arith, r.0, r.1)))

kind-number : (kind : ℕ) → kind ≤ 7 → message_kind (get_or messages kind prepare) ≡ kind
unfolding message_kind messages
kind-number kind h = eqb→eq _ _ (below_at 8 (λ k. eqb (message_kind (get_or messages k prepare)) k) tt kind (omega arith))

pub sent_all : (x : Transaction) (t kind owing to v : ℕ) → kind ≤ 7 → kind < length x.sent → to < 256
    → ((q : ℕ) → member q v ≡ (member q (get_or x.sent kind 0) || member q to)) → (s : ℕ)
    → transaction_in (record { part = x.part; taken_out = x.taken_out; participants = x.participants; marked = x.marked; sent = set x.sent kind v; committed = x.committed; aborted = x.aborted })
    ≡ transaction_after s (sending t kind owing to) (transaction_in x)
unfolding transaction_in sending given
sent_all x t kind owing to v k lt byte e s =
    rw (le-leb kind 7 k)
    (transaction_path refl (fun_ext (λ q. fun_ext (at q))) refl
    ∙ sym (sent-each s (get_or messages kind prepare) (ordered t owing to) (transaction_in x)))
  where
    at : (q j : ℕ) → member q (get_or (set x.sent kind v) j 0)
        ≡ ((any (eqb q) (ordered t owing to) && eqb j (message_kind (get_or messages kind prepare))) || member q (get_or x.sent j 0))
    at q j = rw (any_ordered t q owing to byte, kind-number kind k) (by (eqb j kind) refl)
      where
        by : (b : Bool) → eqb j kind ≡ b → member q (get_or (set x.sent kind v) j 0) ≡ ((member q to && b) || member q (get_or x.sent j 0))
        by true h =
            rw (eqb-true j kind h, get_or-set_same x.sent kind v 0 lt, e q, and-true)
            (or_comm (member q (get_or x.sent kind 0)) (member q to))
        by false h = rw (get_or-set_other x.sent kind j v 0 (eqb-false j kind h), and-false) refl

-- to nobody
pub sent-nobody : (t kind owing to : ℕ) → to ≡ 0 → (s : ℕ) (x : plain.Transaction) → x ≡ transaction_after s (sending t kind owing to) x
unfolding sending given transaction_after
sent-nobody t kind owing to q s x = rw (q, ordered-none t owing) (by (leb kind 7))
  where
    by : (b : Bool) → x ≡ transaction_after s (cond b [] []) x
    by true = refl
    by false = refl

-- what is no message
pub sent-none : (t kind owing to : ℕ) → 7 < kind → (s : ℕ) (x : plain.Transaction) → x ≡ transaction_after s (sending t kind owing to) x
unfolding sending given transaction_after
sent-none t kind owing to q s x = rw (lt-leb kind 7 q) refl

-- ---- a transaction is opened

-- the members below n are Working
unfoldable pub working_below : ℕ → ℕ → plain.Transaction → plain.Transaction
working_below n m x =
    record {
      cohort = x.cohort;
      coordinator = x.coordinator;
      participant = λ p. cond (ltb p n && member p m) participant.working (x.participant p);
      marked = x.marked;
      sent = x.sent;
      entered = x.entered;
    }

ltb_next : (p n : ℕ) → ltb p (n + 1) ≡ (eqb p n || ltb p n)
ltb_next p n = go (eqb p n) refl (ltb p n) refl
  where
    go : (b : Bool) → eqb p n ≡ b → (l : Bool) → ltb p n ≡ l → ltb p (n + 1) ≡ (b || l)
    go true e l h = lt-ltb p (n + 1) (omega (arith, eqb-true p n e))
    go false e true h = lt-ltb p (n + 1) (omega (arith, ltb-true p n h))
    go false e false h = le-ltb p (n + 1) (omega (arith, ltb-false p n h, eqb-false p n e))

module _ (m : ℕ) (x : plain.Transaction) where
  pub none_working : working_below 0 m x ≡ x
  unfolding working_below
  none_working = transaction_path (fun_ext (λ p. go p (ltb p 0) refl)) refl refl
    where
      go : (p : ℕ) (b : Bool) → ltb p 0 ≡ b → cond (b && member p m) participant.working (x.participant p) ≡ x.participant p
      go p true e = absurd (omega (arith, ltb-true p 0 e))
      go p false e = refl

  -- the next site, if it is a member, and if not
  pub next_working : (n : ℕ) → member n m ≡ true → with_participant n participant.working (working_below n m x) ≡ working_below (n + 1) m x
  unfolding working_below with_participant update
  next_working n e = transaction_path (fun_ext (λ p. rw (ltb_next p n) (go p (eqb p n) refl))) refl refl
    where
      go : (p : ℕ) (b : Bool) → eqb p n ≡ b
          → cond b participant.working (cond (ltb p n && member p m) participant.working (x.participant p))
          ≡ cond ((b || ltb p n) && member p m) participant.working (x.participant p)
      go p true q = rw (eqb-true p n q, e) refl
      go p false q = refl

  pub next_left : (n : ℕ) → member n m ≡ false → working_below n m x ≡ working_below (n + 1) m x
  unfolding working_below
  next_left n e = transaction_path (fun_ext (λ p. rw (ltb_next p n) (go p (eqb p n) refl))) refl refl
    where
      go : (p : ℕ) (b : Bool) → eqb p n ≡ b
          → cond (ltb p n && member p m) participant.working (x.participant p)
          ≡ cond ((b || ltb p n) && member p m) participant.working (x.participant p)
      go p true q = rw (eqb-true p n q, e, le-ltb n n (omega arith)) refl
      go p false q = refl

-- the coordinator Open, with phases
abbrev pub opening : Transaction → declared.Cohort → List ParticipantPhase → Transaction
opening x g held =
    record {
      part = record { phase = phases.Open; cohort = g };
      taken_out = 0;
      participants = held;
      marked = x.marked;
      sent = x.sent;
      committed = x.committed;
      aborted = x.aborted;
    }

-- no site from 9 on is a member
pub all_working : (g : declared.Cohort) (x : Transaction) → g.members < 256
    → working_below 9 g.members (transaction_in (opening x g x.participants)) ≡ opened_as (cohort_in g) (transaction_in x)
unfolding working_below opened_as transaction_in
all_working g x h = transaction_path (fun_ext (λ p. go p ((transaction_in x).participant p) (ltb p 9) refl)) refl refl
  where
    go : (p : ℕ) (c : participant.ParticipantPhase) (b : Bool) → ltb p 9 ≡ b
        → cond (b && member p g.members) participant.working c ≡ cond (member p g.members) participant.working c
    go p c true e = refl
    go p c false e =
        let past : 9 ≤ p = ltb-false p 9 e in
        rw (no_member p g.members h (rw (le-ltb p 1 (omega arith), lt-ltb 8 p (omega arith)) refl)) refl
