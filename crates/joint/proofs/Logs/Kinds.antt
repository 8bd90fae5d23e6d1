-- The kinds of one transaction's records at one site, as the invariant tells them: in order, and few.
use Prim.Native.Nat.{ℕ, zero, suc, ◌≤◌, ◌<◌}
use mathlib.Core.Path.{◌≡◌, refl, sym, ap, ◌∙◌, subst}
use mathlib.Core.Logic.{◌⊎◌, inl, inr, ⊎_elim}
use mathlib.Core.Bool.{Bool, true, false, not, ◌&&◌, ◌||◌, true≢false, false≢true}
use mathlib.Core.List.{List, [], ◌∷◌, ◌++◌, map, append-nil}
use lib.ListN.{length}
use lib.Dec.{T, eqb, leb}
use native.Mathlib.Omega.{arith}
use borrow.Author.Tests.{eqb-false, not-true}
use Rattle.codec.specs.Lists.{any, same}
use Rattle.codec.specs.Sets.{member, empty}
use Rattle.codec.specs.Records.{record_kind_at, sequences}
use Rattle.site.specs.Presumption.{Outcome, commit, abort, same_outcome}
use Rattle.site.specs.Cohort.{Cohort, remaining, writes_init}
use Rattle.site.specs.Participant.{outcome_record}
use Rattle.site.specs.Coordinator.{end_record}
use Rattle.joint.specs.State.{Run, Site, opened, takes_part}
use Rattle.joint.specs.Safety.{Moment}
use Rattle.joint.proofs.Base.Booleans.{◌⇒◌, mp, or_left, or_right, or-either, both_ways}
use Rattle.joint.proofs.View.View.{site_view, view}
use Rattle.joint.proofs.Safety.Tables.{Status, working, prepared, gone, half, lone, shut, off, off_voted, off_shut, is_up, stable_kinds, unforced_kinds, has}
use Rattle.joint.proofs.Safety.Finite.{all_bool, at_bool, at_status}
use Rattle.joint.proofs.Safety.Sets.{has_member}
use Rattle.joint.proofs.Safety.Invariant.{Log, kinds_in, class_of, resting, waiting, down, Standing, never, initial, collecting, decided, out_of, log_fits, standing_fits, SetsFit, SomeLeft, Remains, proper_kinds, proper_log, init_log, standing_up, stable_at, kind_if, unforced_at, is_never, record_for, Place, Mid}
use Rattle.joint.proofs.Safety.Coordinator.Logs.{with_end, at_log, waiting-down, resting_down, commit_record, closed_kinds, closed_proper, may_close}
use Rattle.joint.proofs.Logs.Counts.{records_of}
use Rattle.joint.proofs.Logs.Orders.{orderly, owes, Ranged}

-- ---- the kinds of one transaction's records

-- the most records of one transaction
abbrev pub share : ℕ → ℕ
share zero = 3
share (suc n) = 2

-- in order, and not too many; i: record 1 is written at begin, a: acks are owed for a commit
abbrev pub fine : ℕ → Bool → Bool → List ℕ → Bool
fine s i a ks = orderly s i a [] ks && leb (length ks) (share s)

status_fine : (n : ℕ) (i a : Bool) (x : Status) → T (fine (suc n) i a (stable_kinds x ++ unforced_kinds x))
unfolding record_kind_at any same sequences outcome_record
status_fine n i a x = at_status (λ x. fine (suc n) i a (stable_kinds x ++ unforced_kinds x)) tt x

-- a participant has no record 2
no_commit : (x : Status) → T (has 2 (stable_kinds x ++ unforced_kinds x)) → ⊥
unfolding has any outcome_record
no_commit x t = both_ways (has 2 (stable_kinds x ++ unforced_kinds x)) t (at_status (λ x. not (has 2 (stable_kinds x ++ unforced_kinds x))) tt x)

-- the records of a proper log are fine
abbrev log_test : Log → Bool
log_test l = all_bool (λ i. all_bool (λ a. proper_kinds i a (kinds_in l) ⇒ fine 0 i a (kinds_in l)))

log_tests : (l : Log) → T (log_test l)
unfolding record_kind_at any same sequences has
log_tests = at_log log_test tt

module _ (i a : Bool) where
  log_fine : (l : Log) → T (proper_kinds i a (kinds_in l)) → T (fine 0 i a (kinds_in l))
  log_fine l =
      mp (proper_kinds i a (kinds_in l)) (fine 0 i a (kinds_in l))
      (at_bool (test i) (at_bool (λ i. all_bool (test i)) (log_tests l) i) a)
    where
      test : Bool → Bool → Bool
      test i a = proper_kinds i a (kinds_in l) ⇒ fine 0 i a (kinds_in l)

  whole_fine : (l : Log) → T (proper_kinds i a (kinds_in l)) → T (fine 0 i a (kinds_in l ++ []))
  whole_fine l p = subst (λ (ks : List ℕ). T (fine 0 i a ks)) (sym (append-nil (kinds_in l))) (log_fine l p)

initial_fine : (i a b : Bool) → T (not b || i) → T (fine 0 i a (kind_if b 1))
unfolding record_kind_at any same sequences
initial_fine i a false t = tt
initial_fine true a true t = tt
initial_fine false a true t = absurd t

collecting_fine : (i a b : Bool) → T (fine 0 i a (kinds_in (init_log i) ++ kind_if b 2))
unfolding record_kind_at any same sequences
collecting_fine true a true = tt
collecting_fine true a false = tt
collecting_fine false a true = tt
collecting_fine false a false = tt

-- with an unforced end record
closing_fine : (i a : Bool) (o : Outcome) (l : Log) → T (log_fits i o (resting true) (class_of l)) → T (same_outcome o abort || a)
    → T (proper_kinds i a (kinds_in l))
    → T (fine 0 i a (kinds_in l ++ (end_record o ∷ [])))
closing_fine i a o l f k p = subst (λ (ks : List ℕ). T (fine 0 i a ks)) (closed_kinds i o l f) (log_fine i a (with_end l) (closed_proper i a o l f k p))

standing_fine : (g : Cohort) (h : Standing) → T (standing_fits (writes_init g) h) → SetsFit g h → T (proper_log (writes_init g) (owes g (out_of h)) h)
    → T (fine 0 (writes_init g) (owes g (out_of h)) (stable_at (writes_init g) h ++ unforced_at h))
standing_fine g (never u) f e p = tt
standing_fine g (initial b) f e p = initial_fine (writes_init g) (owes g 0) b f
standing_fine g (collecting w out b) f e p = collecting_fine (writes_init g) (owes g out) b
standing_fine g (decided o out (waiting w) l) f e p = whole_fine (writes_init g) (owes g out) l p
standing_fine g (decided o out (resting true) l) f e p = closing_fine (writes_init g) (owes g out) o l f (may_close g o out l e) p
standing_fine g (decided o out (resting false) l) f e p = whole_fine (writes_init g) (owes g out) l p
standing_fine g (decided o out down l) f e p = whole_fine (writes_init g) (owes g out) l p

-- somebody remains where there is a record 2
has_either : (k : ℕ) (ks js : List ℕ) → T (has k (ks ++ js)) → T (has k ks) ⊎ T (has k js)
unfolding has any
has_either k [] js t = inr t
has_either k (j ∷ ks) js t = or-either (eqb j k) (any (λ i. eqb i k) (ks ++ js)) (λ u. inl (or_left (eqb j k) _ u)) (λ u. ⊎_elim (λ x. inl (or_right (eqb j k) _ x)) inr (has_either k ks js u)) t

pub has_front : (k : ℕ) (ks js : List ℕ) → T (has k ks) → T (has k (ks ++ js))
unfolding has any
has_front k [] js t = absurd t
has_front k (j ∷ ks) js t = or-either (eqb j k) (any (λ i. eqb i k) ks) (or_left (eqb j k) _) (λ u. or_right (eqb j k) (any (λ i. eqb i k) (ks ++ js)) (has_front k ks js u)) t

left_of : (g : Cohort) (o : Outcome) (out : ℕ) → SomeLeft g out o → T (same_outcome o commit) → T (not (empty (remaining g out).members))
unfolding same_outcome
left_of g commit out x u = x
left_of g abort out x u = absurd u

standing_left : (g : Cohort) (h : Standing) → T (standing_fits (writes_init g) h) → Remains g h → T (has 2 (stable_at (writes_init g) h ++ unforced_at h))
    → T (not (empty (remaining g (out_of h)).members))
unfolding has any end_record
standing_left g (never u) f x t = absurd t
standing_left g (initial true) f x t = absurd t
standing_left g (initial false) f x t = absurd t
standing_left g (collecting w out true) f x t = x
standing_left g (collecting w out false) f x t = absurd (none_yet (writes_init g) t)
  where
    none_yet : (i : Bool) → T (has 2 (kinds_in (init_log i) ++ [])) → ⊥
    none_yet true t = unfold has any in t
    none_yet false t = unfold has any in t
standing_left g (decided o out (waiting w) l) f x t = left_of g o out x (commit_record (writes_init g) o l (⊎_elim (λ u. u) (λ u. absurd u) (has_either 2 (kinds_in l) [] t)) (waiting-down (writes_init g) o l w f))
standing_left g (decided o out (resting false) l) f x t = left_of g o out x (commit_record (writes_init g) o l (⊎_elim (λ u. u) (λ u. absurd u) (has_either 2 (kinds_in l) [] t)) (resting_down (writes_init g) o l false f))
standing_left g (decided o out (resting true) l) f x t = left_of g o out x (commit_record (writes_init g) o l (⊎_elim (λ u. u) (λ u. absurd (no_end o u)) (has_either 2 (kinds_in l) (end_record o ∷ []) t)) (resting_down (writes_init g) o l true f))
  where
    no_end : (o : Outcome) → T (has 2 (end_record o ∷ [])) → ⊥
    no_end commit u = unfold has any end_record in u
    no_end abort u = unfold has any end_record in u
standing_left g (decided o out down l) f x t = left_of g o out x (commit_record (writes_init g) o l (⊎_elim (λ u. u) (λ u. absurd u) (has_either 2 (kinds_in l) [] t)) f)

-- ---- a site that is down has no unforced record

status_halts : (x : Status) → is_up x ≡ false → unforced_kinds x ≡ []
status_halts working e = refl
status_halts prepared e = refl
status_halts gone e = refl
status_halts (half o) e = absurd (true≢false e)
status_halts lone e = absurd (true≢false e)
status_halts (shut o f) e = refl
status_halts off e = refl
status_halts off_voted e = refl
status_halts (off_shut o f) e = refl

standing_halts : (h : Standing) → standing_up h ≡ false → unforced_at h ≡ []
standing_halts (never u) e = refl
standing_halts (initial b) e = absurd (true≢false e)
standing_halts (collecting w out b) e = absurd (true≢false e)
standing_halts (decided o out (waiting w) l) e = refl
standing_halts (decided o out (resting b) l) e = absurd (true≢false e)
standing_halts (decided o out down l) e = refl

-- ---- the records of transaction t at site s

-- the cohort of transaction t
abbrev pub cohort_in : Run → ℕ → Cohort
cohort_in r t = (r.transaction t).cohort

-- transaction t is opened, and site s takes part in it
pub record Known (r : Run) (t s : ℕ) : Type 0 where
  pub number : t < 8
  pub opens : opened r t ≡ true
  pub takes : takes_part (r.transaction t) s ≡ true

-- the kinds of t's records at s: they are fine, and there are none unless s knows t
pub record Kinds (r : Run) (t s : ℕ) : Type 0 where
  -- the set that was taken out, which record 2 leaves out
  pub out : ℕ
  pub stable : List ℕ
  pub unforced : List ℕ
  pub is_stable : records_of t (r.site s).stable ≡ map (record_for (cohort_in r t) out t s) stable
  pub is_unforced : records_of t (r.site s).unforced ≡ map (record_for (cohort_in r t) out t s) unforced
  pub fits : T (fine s (writes_init (cohort_in r t)) (owes (cohort_in r t) out) (stable ++ unforced))
  pub left : T (has 2 (stable ++ unforced)) → T (not (empty (remaining (cohort_in r t) out).members))
  pub halts : (r.site s).up ≡ false → unforced ≡ []
  pub known : (stable ++ unforced ≡ []) ⊎ Known r t s

never_none : (i : Bool) (h : Standing) → is_never h ≡ true → stable_at i h ++ unforced_at h ≡ []
never_none i (never u) e = refl
never_none i (initial b) e = absurd (false≢true e)
never_none i (collecting w out b) e = absurd (false≢true e)
never_none i (decided o out pace l) e = absurd (false≢true e)

module _ (t : ℕ) (ms : List Moment) (r : Run) (h : Standing) (mid : Mid t h (view t ms r)) where
  known_as : (s : ℕ) → empty (cohort_in r t).members ≡ false → takes_part (r.transaction t) s ≡ true → Known r t s
  unfolding view opened
  known_as s e k = record { number = mid.sound.number e; opens = ap not e; takes = k }

  kinds_0 : Kinds r t 0
  unfolding view site_view
  kinds_0 =
      record {
        out = out_of h;
        stable = stable_at (writes_init (cohort_in r t)) h;
        unforced = unforced_at h;
        is_stable = ap (λ (x : Site). x.stable) mid.log;
        is_unforced = ap (λ (x : Site). x.unforced) mid.log;
        fits = standing_fine (cohort_in r t) h mid.sound.fit mid.sound.sets mid.sound.proper;
        left = standing_left (cohort_in r t) h mid.sound.fit mid.sound.remains;
        halts = λ d. standing_halts h (sym (ap (λ (x : Site). x.up) mid.log) ∙ d);
        known = go (empty (cohort_in r t).members) refl;
      }
    where
      go : (b : Bool) → empty (cohort_in r t).members ≡ b → (stable_at (writes_init (cohort_in r t)) h ++ unforced_at h ≡ []) ⊎ Known r t 0
      go true e = inl (never_none (writes_init (cohort_in r t)) h (mid.sound.opened ∙ e))
      go false e = inr (known_as 0 e (unfold takes_part in refl))

  kinds_n : (n : ℕ) → Kinds r t (suc n)
  unfolding view site_view
  kinds_n n = go (member (suc n) (cohort_in r t).members) refl (mid.stands n)
    where
      s : Status
      s = mid.status n

      go : (b : Bool) → member (suc n) (cohort_in r t).members ≡ b → Place b t n s (view t ms r) → Kinds r t (suc n)
      go true e x =
          record {
            out = 0;
            stable = stable_kinds s;
            unforced = unforced_kinds s;
            is_stable = ap (λ (y : Site). y.stable) x.site;
            is_unforced = ap (λ (y : Site). y.unforced) x.site;
            fits = status_fine n (writes_init (cohort_in r t)) (owes (cohort_in r t) 0) s;
            left = λ u. absurd (no_commit s u);
            halts = λ d. status_halts s (sym (ap (λ (y : Site). y.up) x.site) ∙ d);
            known = inr (known_as (suc n) (has_member (cohort_in r t).members (suc n) e) (unfold takes_part in e));
          }
      go false e x =
          record { out = 0; stable = []; unforced = []; is_stable = x.stable; is_unforced = x.unforced; fits = tt; left = λ u. absurd (unfold has any in u); halts = λ d. refl; known = inl refl }

  pub kinds_at : (s : ℕ) → Kinds r t s
  kinds_at zero = kinds_0
  kinds_at (suc n) = kinds_n n

  -- an opened transaction's cohort is in range
  pub opened_ranged : opened r t ≡ true → (t < 8) × Ranged (cohort_in r t)
  unfolding view opened empty
  opened_ranged e =
      let some : empty (cohort_in r t).members ≡ false = not-true _ e in
      (mid.sound.number some, record { some = positive (cohort_in r t).members (eqb-false (cohort_in r t).members 0 some); byte = mid.sound.byte; part = mid.sound.part })
    where
      positive : (m : ℕ) → (m ≡ 0 → ⊥) → 1 ≤ m
      positive zero k = absurd (k refl)
      positive (suc m) k = omega arith
