-- How the coordinator's changes look from one member: the ways from stage to stage that `passes` allows.
use Prim.Native.Nat.{ℕ, suc}
use mathlib.Core.Path.{◌≡◌, refl}
use mathlib.Core.Bool.{Bool, true, false, cond, not, ◌&&◌, ◌||◌}
use lib.Dec.{T}
use Rattle.codec.specs.Sets.{member, empty}
use Rattle.codec.specs.Laws.Tests.{of_true}
use Rattle.site.specs.Presumption.{Outcome, commit, abort, same_outcome, Presumption, presumed_abort, presumed_commit, acks, silence}
use Rattle.site.specs.Cohort.{Cohort, presumption_of, writes_init}
use Rattle.site.specs.Step.{vote_yes, vote_no, read_only, ack}
use Rattle.joint.proofs.Base.Booleans.{and_both, or_left, or_right, or_first, or-either, both_ways}
use Rattle.joint.proofs.View.View.{View}
use Rattle.joint.proofs.Safety.Tables.{Stage, fresh, asking, done}
use Rattle.joint.proofs.Safety.Sets.{empty-none}
use Rattle.joint.proofs.Safety.Invariant.{sent_in, cohort_of}
use Rattle.joint.proofs.Safety.Coordinator.Steps.{PassesAt}
use Rattle.joint.proofs.Safety.Outcomes.{refl-outcome, owes}

-- record 1 is written where silence means commit to someone
pub init_or_silent : (g : Cohort) (p : ℕ) → T (same_outcome (silence (presumption_of g p)) abort || writes_init g)
unfolding presumption_of silence same_outcome
init_or_silent g p = go (member p g.presume_commit) refl (empty g.presume_commit) refl
  where
    go : (b : Bool) → member p g.presume_commit ≡ b → (c : Bool) → empty g.presume_commit ≡ c
        → T (same_outcome (silence (cond b presumed_commit presumed_abort)) abort || not c)
    go true e true f = absurd (empty-none g.presume_commit p (of_true f) (of_true e))
    go true e false f = tt
    go false e true f = tt
    go false e false f = tt

module _ (v : View) (n : ℕ) where
  abbrev own : Presumption
  own = presumption_of (cohort_of v) (suc n)

  abbrev Way : Stage → Stage → Type 0
  Way m m' = PassesAt v m m' n

  -- it sent a read-only vote
  abbrev looked : Bool
  looked = sent_in v (suc n) read_only

  -- ---- while it collects

  -- the member's vote is counted, or another's; e: whether it is the member's
  pub way_count : (w e : Bool) → (T e → T (sent_in v (suc n) vote_yes || looked)) → Way (asking w) (asking (w && not e))
  way_count false e f = tt
  way_count true false f = tt
  way_count true true f = f tt

  -- silence means o, or it only looked, where it owes no ack else
  silent_or_looked : (o : Outcome) → (T (acks own o) → T looked) → T (same_outcome (silence own) o || looked)
  silent_or_looked o f =
      or-either (same_outcome (silence own) o) (acks own o) (or_left (same_outcome (silence own) o) looked)
      (λ k. or_right (same_outcome (silence own) o) looked (f k)) (owes own o)

  -- commit: the vote is here; u: the member is waited for, as it is where it owes an ack and remains
  pub way_commit : (w u : Bool) → T (not w) → (T (acks own commit) → T (u || looked)) → Way (asking w) (done commit (not u))
  way_commit true u k f = absurd k
  way_commit false true k f = tt
  way_commit false false k f = silent_or_looked commit f

  -- abort: the member is told (b) and is waited for (u) where it owes an ack, or it has voted No or only looked
  pub way_abort : (w b u : Bool) → (T b → T (acks own abort) → T u) → (T (not b) → T (sent_in v (suc n) vote_no || looked)) → Way (asking w) (done abort (not u))
  way_abort w b true f g = tt
  way_abort w true false f g =
      or_left (same_outcome (silence own) abort || sent_in v (suc n) vote_no) looked
      (or_left (same_outcome (silence own) abort) (sent_in v (suc n) vote_no) (or_first (same_outcome (silence own) abort) (acks own abort) (owes own abort) (f tt)))
  way_abort w false false f g =
      or-either (sent_in v (suc n) vote_no) looked
      (λ k. or_left (same_outcome (silence own) abort || sent_in v (suc n) vote_no) looked (or_right (same_outcome (silence own) abort) (sent_in v (suc n) vote_no) k))
      (or_right (same_outcome (silence own) abort || sent_in v (suc n) vote_no) looked) (g tt)

  -- nobody remains: abort, and the coordinator is done with it
  pub way_looked : (w : Bool) → T looked → Way (asking w) (done abort true)
  way_looked w k = or_right (same_outcome (silence own) abort || sent_in v (suc n) vote_no) looked k

  -- a crash: with record 1 the abort is resumed (r), without it silence means abort
  pub way_lost : (w r : Bool) → (T (writes_init (cohort_of v)) → T r) → Way (asking w) (done abort (not r))
  way_lost w true f = tt
  way_lost w false f =
      or_left (same_outcome (silence own) abort || sent_in v (suc n) vote_no) looked
      (or_left (same_outcome (silence own) abort) (sent_in v (suc n) vote_no)
      (or_first (same_outcome (silence own) abort) (writes_init (cohort_of v)) (init_or_silent (cohort_of v) (suc n)) f))

  -- ---- once it has decided o

  module _ (o : Outcome) where
    abbrev heard_or_done : Bool → Bool → Bool
    heard_or_done u u' = not u' || u || same_outcome (silence own) o || sent_in v (suc n) (ack o) || looked

    stays : (u u' : Bool) → T (heard_or_done u u') → Way (done o u) (done o u')
    stays u u' = and_both (same_outcome o o) (heard_or_done u u') (refl-outcome o)

    -- it was done with the member before
    pub way_done : (u : Bool) → Way (done o true) (done o u)
    way_done true = stays true true tt
    way_done false = stays true false tt

    -- it is not done with it
    pub way_open : (u : Bool) → Way (done o u) (done o false)
    way_open u = stays u false tt

    -- silence means o, or it only looked
    pub way_silent : (u u' : Bool) → T (same_outcome (silence own) o || looked) → Way (done o u) (done o u')
    way_silent u u' k =
        stays u u'
        (or-either (same_outcome (silence own) o) looked
        (λ q. or_left (not u' || u || same_outcome (silence own) o || sent_in v (suc n) (ack o)) looked (or_left (not u' || u || same_outcome (silence own) o) (sent_in v (suc n) (ack o)) (or_right (not u' || u) (same_outcome (silence own) o) q)))
        (or_right (not u' || u || same_outcome (silence own) o || sent_in v (suc n) (ack o)) looked) k)

    -- an ack is heard, the member's (e) or another's; w: the member is waited for
    pub way_hear : (w e : Bool) → (T e → T (sent_in v (suc n) (ack o))) → Way (done o (not w)) (done o (not (w && not e)))
    way_hear false e f = way_done true
    way_hear true false f = way_open false
    way_hear true true f =
        stays false true
        (or_left (not true || false || same_outcome (silence own) o || sent_in v (suc n) (ack o)) looked
        (or_right (not true || false || same_outcome (silence own) o) (sent_in v (suc n) (ack o)) (f tt)))

    -- it resumes o: the member is waited for (w) if it owes an ack and remains
    pub way_resume : (u w : Bool) → (T (acks own o) → T (w || looked)) → Way (done o u) (done o (not w))
    way_resume u true f = way_open u
    way_resume u false f = way_silent u true (silent_or_looked o f)

  pub way_self : (m : Stage) → Way m m
  way_self fresh = tt
  way_self (asking true) = tt
  way_self (asking false) = tt
  way_self (done o true) = way_done o true
  way_self (done o false) = way_open o false

  -- down, from waiting: o is resumed (r), or it is an abort without record 1
  pub way_down : (o : Outcome) (u r : Bool) → (T (not r) → T (same_outcome o abort && not (writes_init (cohort_of v)))) → Way (done o u) (done o (not r))
  way_down o u true f = way_open o u
  way_down commit u false f = absurd (unfold same_outcome in f tt)
  way_down abort u false f =
      way_silent abort u true
      (or_left (same_outcome (silence own) abort) looked
      (or_first (same_outcome (silence own) abort) (writes_init (cohort_of v)) (init_or_silent (cohort_of v) (suc n)) (λ k. both_ways (writes_init (cohort_of v)) k (unfold same_outcome in f tt))))
