-- The coordinator's small steps keep the invariant: a change of standing, with its log or without, an entry, a message.
use Prim.Native.Nat.{ℕ, suc}
use mathlib.Core.Path.{◌≡◌, refl, sym, ap, ◌∙◌, subst}
use mathlib.Core.Logic.{◌⊎◌, inl, inr, ⊎_elim}
use mathlib.Core.Bool.{Bool, true, false, not, ◌&&◌, ◌||◌}
use lib.Dec.{T, eqb}
use native.Mathlib.Omega.{arith}
use borrow.Author.Tests.{ne_eqb, eqb-true}
use Rattle.codec.specs.Sets.{member, empty}
use Rattle.codec.specs.Laws.Members.{none_in}
use Rattle.site.specs.Presumption.{Outcome, commit, same_outcome, abort}
use Rattle.site.specs.Cohort.{remaining, presumption_of, owing, writes_init}
use Rattle.site.specs.Step.{Message, vote_yes, vote_no, read_only, message_kind, enter, send}
use Rattle.site.specs.Coordinator.{Coordinator}
use Rattle.joint.specs.State.{Site, update, with_coordinator, with_participant, with_sent, forgotten}
use Rattle.joint.proofs.Base.Booleans.{or_left, or_right, or-either}
use Rattle.joint.proofs.Base.Updates.{update_other}
use Rattle.joint.proofs.View.View.{View, view_at, view_settle, view_perform}
use Rattle.joint.proofs.Safety.Tables.{Status, has, Stage, is_counted, Fine, passes, ack_sent, may_send}
use Rattle.joint.proofs.Safety.Coordinator.Passes.{pass_fine, send_fine}
use Rattle.joint.proofs.Safety.Invariant.{Standing, out_of, stage_of, has_decided, standing_fits, proper_log, awaits_commit, SetsFit, Remains, standing_up, stable_at, unforced_at, is_never, site_with, sent_in, Place, Edge, Votes, Sound, Mid, cohort_of, Log, kinds_in, Pace, decided, waiting, resting}
use Rattle.joint.proofs.Safety.Outcomes.{same_outcome_lem}
use Rattle.joint.proofs.Safety.Sets.{belongs, not-empty}

-- ---- what changes of the standing are allowed

-- member suc n allows the change of stage, by what it has sent
abbrev pub PassesAt : View → Stage → Stage → ℕ → Type 0
PassesAt v m m' n =
    T
    (passes (presumption_of (cohort_of v) (suc n)) (sent_in v (suc n) vote_yes) (sent_in v (suc n) vote_no) (ack_sent (sent_in v (suc n)) m) (sent_in v (suc n) read_only) m m')

-- from the standing h0 to h: what is decided stays decided, and a commit that is new has its record 2 stable
pub record From (i : Bool) (h0 h : Standing) : Type 0 where
  pub keeps : (o : Outcome) → T (has_decided h0 o) → T (has_decided h o)
  pub new : T (has_decided h commit) → T (has_decided h0 commit) ⊎ T (has 2 (stable_at i h))
  -- and nobody more is taken out
  pub outs : (n : ℕ) → T (member (suc n) (out_of h)) → T (member (suc n) (out_of h0))

pub from_self : (i : Bool) (h : Standing) → From i h h
from_self i h = record { keeps = λ o k. k; new = inl; outs = λ n k. k }

-- the outcome stays
pub from_same : (i : Bool) (o : Outcome) (out : ℕ) (p q : Pace) (l l' : Log) (h0 : Standing) → (T (has 2 (kinds_in l)) → T (has 2 (kinds_in l')))
    → From i h0 (decided o out p l) → From i h0 (decided o out q l')
from_same i o out p q l l' h0 grows f = record { keeps = f.keeps; new = λ c. ⊎_elim inl (λ k. inr (grows k)) (f.new c); outs = f.outs }

-- nothing was decided
pub from_none : {i : Bool} {h h' : Standing} (h0 : Standing) → ((o : Outcome) → T (has_decided h o) → ⊥)
    → (T (has_decided h' commit) → T (has 2 (stable_at i h'))) → ((n : ℕ) → T (member (suc n) (out_of h')) → T (member (suc n) (out_of h)))
    → From i h0 h → From i h0 h'
from_none h0 undecided new outs f =
    record { keeps = λ o k. absurd (undecided o (f.keeps o k)); new = λ c. inr (new c); outs = λ n k. f.outs n (outs n k) }

-- a change of the standing that the members allow
pub record Move (v : View) (h h' : Standing) : Type 0 where
  pub never : is_never h' ≡ is_never h
  pub fit : T (standing_fits (writes_init (cohort_of v)) h')
  pub proper : T (proper_log (writes_init (cohort_of v)) (awaits_commit (remaining (cohort_of v) (out_of h'))) h')
  pub sets : SetsFit (cohort_of v) h'
  pub remains : Remains (cohort_of v) h'
  pub votes : Votes v h'
  pub passing : (n : ℕ) → T (member (suc n) (cohort_of v).members) → PassesAt v (stage_of h (suc n)) (stage_of h' (suc n)) n

-- one within a row, behind which a stable record 2 still stands
pub record Shift (v : View) (h h' : Standing) : Type 0 where
  pub move : Move v h h'
  pub from : (h0 : Standing) → From (writes_init (cohort_of v)) h0 h → From (writes_init (cohort_of v)) h0 h'

abbrev pub Keeps : Standing → Standing → Type 0
Keeps h h' = (o : Outcome) → T (has_decided h o) → T (has_decided h' o)

pub shift_keeps : {v : View} {h h' : Standing} → Shift v h h' → Keeps h h'
shift_keeps {h} x = (x.from h (from_self _ h)).keeps

-- the coordinator's site as its standing says
abbrev pub stands_as : ℕ → View → Standing → Site
stands_as t v h = site_with (cohort_of v) (out_of h) t 0 (standing_up h) (stable_at (writes_init (cohort_of v)) h) (unforced_at h)

-- someone owes an ack of what is waited for
pub still_owed : {t : ℕ} {v : View} (o : Outcome) (out w : ℕ) (l : Log) → Mid t (decided o out (waiting w) l) v → T (not (empty w))
    → SetsFit (cohort_of v) (decided o out (resting true) l)
still_owed {v} commit out w l mid k = not-empty w (owing (remaining (cohort_of v) out) commit) mid.sound.sets.0 k (λ n m. mid.sound.sets.1 (suc n) m)
still_owed abort out w l mid k = tt

-- what was heard stays, with the standing decided as it was
pub same-votes : {t : ℕ} {v : View} {o : Outcome} {out : ℕ} {p : Pace} {l : Log} (q : Pace) (l' : Log) → Mid t (decided o out p l) v → Votes v (decided o out q l')
same-votes q l' mid = record { looked = mid.votes.looked; said = mid.votes.said }

-- an abort asks for no vote
pub abort_votes : {t : ℕ} {v : View} {h : Standing} (p : Pace) (l : Log) → Mid t h v → Votes v (decided abort (out_of h) p l)
unfolding same_outcome
abort_votes p l mid = record { looked = mid.votes.looked; said = λ n m k. absurd k }

-- nobody is taken out, and no vote is counted
pub no_votes : {v : View} {h : Standing} → out_of h ≡ 0 → ((n : ℕ) → T (member (suc n) (cohort_of v).members) → T (is_counted (stage_of h (suc n))) → ⊥) → Votes v h
no_votes e f =
    record { looked = λ n k. absurd (subst T (ap (member (suc n)) e ∙ none_in (suc n)) k); said = λ n m k. absurd (f n m k) }

-- ---- the participants' sites, which the coordinator does not touch

pub beside {ℓ} : {A : Type ℓ} (k : A → A) (f : ℕ → A) (n : ℕ) → update 0 k f (suc n) ≡ f (suc n)
beside k f n = update_other 0 (suc n) k f (λ e. absurd (omega (arith, e)))

-- the coordinator's own number is no participant's
pub own_number : (n : ℕ) → eqb 0 (suc n) ≡ false
own_number n = ne_eqb 0 (suc n) (λ e. absurd (omega (arith, e)))

not_own : (n : ℕ) (a b : Bool) → T (a || (eqb 0 (suc n) && b)) → T a
not_own n a b u = or-either a (eqb 0 (suc n) && b) (λ k. k) (λ k. absurd (subst (λ (z : Bool). T (z && b)) (own_number n) k)) u

module _ (t n : ℕ) (s : Status) (v : View) where
  place_beside : (b : Bool) (k : Site → Site) → Place b t n s v → Place b t n s (view_at 0 k v)
  unfolding view_at
  place_beside true k x = record { site = beside k v.site n ∙ x.site; phase = x.phase }
  place_beside false k x =
      record {
        stable = ap (λ (y : Site). y.stable) (beside k v.site n) ∙ x.stable;
        unforced = ap (λ (y : Site). y.unforced) (beside k v.site n) ∙ x.unforced;
        sent = x.sent;
        entered = x.entered;
      }

  place_settled : (b : Bool) (c : Coordinator) → Place b t n s v → Place b t n s (view_settle (with_coordinator 0 c) v)
  unfolding view_settle with_coordinator
  place_settled true c x = record { site = x.site; phase = x.phase }
  place_settled false c x = record { stable = x.stable; unforced = x.unforced; sent = x.sent; entered = x.entered }

  -- all phases of site 0
  place_forgotten : (b : Bool) → Place b t n s v → Place b t n s (view_settle (forgotten 0) v)
  unfolding view_settle forgotten with_coordinator with_participant
  place_forgotten true x = record { site = x.site; phase = beside _ v.transaction.participant n ∙ x.phase }
  place_forgotten false x = record { stable = x.stable; unforced = x.unforced; sent = x.sent; entered = x.entered }

  place_entered : (b : Bool) (o : Outcome) → Place b t n s v → Place b t n s (view_perform 0 t (enter o) v)
  unfolding view_perform
  place_entered true o x = record { site = x.site; phase = x.phase }
  place_entered false o x =
      record { stable = x.stable; unforced = x.unforced; sent = x.sent; entered = λ d. rw (x.entered d, own_number n) refl }

  edge_entered : (m : Stage) (o : Outcome) → Edge m n s v → Edge m n s (view_perform 0 t (enter o) v)
  unfolding view_perform
  edge_entered m o x =
      record {
        shape = x.shape;
        messages = x.messages;
        entries = λ d u. x.entries d (not_own n (v.entered (suc n) d) (same_outcome d o) u);
        counted = x.counted;
        honest = x.honest;
        looked = x.looked;
      }

-- ---- standings

module _ {t : ℕ} {v : View} {h : Standing} (mid : Mid t h v) where
  sound_as : {h' : Standing} → Move v h h' → Sound t (cohort_of v) h'
  sound_as x =
      record {
        number = mid.sound.number;
        byte = mid.sound.byte;
        part = mid.sound.part;
        opened = x.never ∙ mid.sound.opened;
        fit = x.fit;
        proper = x.proper;
        sets = x.sets;
        remains = x.remains;
      }

  -- without an effect
  pub stay : {h' : Standing} → Move v h h' → Keeps h h' → stands_as t v h ≡ stands_as t v h' → Mid t h' v
  stay {h'} x keeps e =
      record {
        sound = sound_as x;
        log = mid.log ∙ e;
        entries = λ o u. keeps o (mid.entries o u);
        votes = x.votes;
        status = mid.status;
        stands = mid.stands;
        fine = λ n b. pass_fine (mid.fine n b) (stage_of h' (suc n)) (x.passing n b);
      }

  -- with a change of the log
  pub stand : {h' : Standing} → Move v h h' → Keeps h h' → (k : Site → Site) → k (stands_as t v h) ≡ stands_as t v h' → Mid t h' (view_at 0 k v)
  unfolding view_at update
  stand {h'} x keeps k e =
      record {
        sound = sound_as x;
        log = ap k mid.log ∙ e;
        entries = λ o u. keeps o (mid.entries o u);
        votes = record { looked = x.votes.looked; said = x.votes.said };
        status = mid.status;
        stands = λ n. place_beside t n (mid.status n) v (belongs (cohort_of v) n) k (mid.stands n);
        fine = λ n b. pass_fine (mid.fine n b) (stage_of h' (suc n)) (x.passing n b);
      }

  -- with a change of the coordinator's phase
  pub settle_mid : (c : Coordinator) → Mid t h (view_settle (with_coordinator 0 c) v)
  unfolding view_settle with_coordinator
  settle_mid c =
      record {
        sound = mid.sound;
        log = mid.log;
        entries = mid.entries;
        votes = record { looked = mid.votes.looked; said = mid.votes.said };
        status = mid.status;
        stands = λ n. place_settled t n (mid.status n) v (belongs (cohort_of v) n) c (mid.stands n);
        fine = mid.fine;
      }

  pub forget_mid : Mid t h (view_settle (forgotten 0) v)
  unfolding view_settle forgotten with_coordinator with_participant
  forget_mid =
      record {
        sound = mid.sound;
        log = mid.log;
        entries = mid.entries;
        votes = record { looked = mid.votes.looked; said = mid.votes.said };
        status = mid.status;
        stands = λ n. place_forgotten t n (mid.status n) v (belongs (cohort_of v) n) (mid.stands n);
        fine = mid.fine;
      }

  -- ---- an entry

  pub enter_mid : (o : Outcome) → T (has_decided h o) → Mid t h (view_perform 0 t (enter o) v)
  unfolding view_perform
  enter_mid o d =
      record {
        sound = mid.sound;
        log = mid.log;
        entries = λ r u. or-either (v.entered 0 r) (same_outcome r o) (mid.entries r) (λ k. subst (λ (z : Outcome). T (has_decided h z)) (sym (same_outcome_lem r o k)) d) u;
        votes = record { looked = mid.votes.looked; said = mid.votes.said };
        status = mid.status;
        stands = λ n. place_entered t n (mid.status n) v (belongs (cohort_of v) n) o (mid.stands n);
        fine = λ n b. edge_entered t n (mid.status n) v (stage_of h (suc n)) o (mid.fine n b);
      }

  -- ---- a message to the member suc n; y: whether it answers a Yes

  module _ (y : Bool) (n : ℕ) (known : T (member (suc n) (cohort_of v).members)) (answers : T y → T (sent_in v (suc n) vote_yes)) (g : Message)
      (may : T (may_send (presumption_of (cohort_of v) (suc n)) (stage_of h (suc n)) y g)) where
    abbrev to_member : ℕ → Bool
    to_member k = eqb (suc k) (suc n)

    abbrev Sent : ℕ → Bool → Status → Type 0
    Sent k b s =
        Fine (presumption_of (cohort_of v) (suc k)) (v.transaction.marked (suc k)) (stage_of h (suc k)) s (λ j. (b && eqb (message_kind j) (message_kind g)) || sent_in v (suc k) j)
        (v.entered (suc k)) (v.voted (suc k))

    fine_sent : (k : ℕ) (b : Bool) → to_member k ≡ b → (s : Status) → Edge (stage_of h (suc k)) k s v → Sent k b s
    fine_sent k false e s x = x
    fine_sent k true e s x =
        send_fine x y (subst (λ (z : ℕ). T y → T (sent_in v z vote_yes)) (sym addressee) answers) g
        (subst (λ (z : ℕ). T (may_send (presumption_of (cohort_of v) z) (stage_of h z) y g)) (sym addressee) may)
      where
        addressee : suc k ≡ suc n
        addressee = eqb-true (suc k) (suc n) e

    edge_sent : (k : ℕ) (s : Status) → Edge (stage_of h (suc k)) k s v → Edge (stage_of h (suc k)) k s (view_perform 0 t (send g (suc n)) v)
    unfolding view_perform with_sent
    edge_sent k s x =
        let f = fine_sent k (to_member k) refl s x in
        record {
          shape = f.shape;
          messages = f.messages;
          entries = f.entries;
          counted = f.counted;
          honest = λ u. or_left (v.voted (suc k)) _ (f.honest u);
          looked = f.looked;
        }

    not-member : (k : ℕ) → belongs (cohort_of v) k ≡ false → to_member k ≡ false
    not-member k u = go (to_member k) refl
      where
        go : (b : Bool) → to_member k ≡ b → to_member k ≡ false
        go false e = e
        go true e =
            absurd (subst T (sym (ap (λ (z : ℕ). member z (cohort_of v).members) (eqb-true (suc k) (suc n) e)) ∙ u) known)

    place_sent : (k : ℕ) (s : Status) (b : Bool) → belongs (cohort_of v) k ≡ b → Place b t k s v → Place b t k s (view_perform 0 t (send g (suc n)) v)
    unfolding view_perform with_sent
    place_sent k s true e x = record { site = x.site; phase = x.phase }
    place_sent k s false e x =
        record {
          stable = x.stable;
          unforced = x.unforced;
          sent = λ m. rw (not-member k e) (x.sent m);
          entered = x.entered;
        }

    -- what was sent stays sent
    more : (k : ℕ) (j : Message) → T (sent_in v (suc k) j) → T (sent_in (view_perform 0 t (send g (suc n)) v) (suc k) j)
    unfolding view_perform with_sent
    more k j u = or_right (to_member k && eqb (message_kind j) (message_kind g)) (sent_in v (suc k) j) u

    pub send_mid : Mid t h (view_perform 0 t (send g (suc n)) v)
    unfolding view_perform with_sent
    send_mid =
        record {
          sound = mid.sound;
          log = mid.log;
          entries = mid.entries;
          votes =
              record {
                looked = λ k u. more k read_only (mid.votes.looked k u);
                said = λ k m u. ⊎_elim inl (λ y. inr (more k vote_yes y)) (mid.votes.said k m u);
              };
          status = mid.status;
          stands = λ k. place_sent k (mid.status k) (belongs (cohort_of v) k) refl (mid.stands k);
          fine = λ k b. edge_sent k (mid.status k) (mid.fine k b);
        }
