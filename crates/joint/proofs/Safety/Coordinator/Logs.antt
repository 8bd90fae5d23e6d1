-- The coordinator's log: what a crash, a force, a discard and a restart make of it. Closed tests over the nine logs.
use Prim.Native.Nat.{ℕ}
use mathlib.Core.Path.{◌≡◌}
use mathlib.Core.Bool.{Bool, true, false, not, ◌&&◌, ◌||◌}
use mathlib.Core.List.{List, [], ◌∷◌, ◌++◌}
use lib.ListN.{drop}
use lib.Dec.{T}
use Rattle.codec.specs.Lists.{any, same}
use Rattle.codec.specs.Laws.Tests.{true_of, alike, alike_eq, same_list}
use Rattle.site.specs.Presumption.{Outcome, commit, abort, same_outcome}
use Rattle.site.specs.Cohort.{Cohort, remaining}
use Rattle.site.specs.Coordinator.{end_record}
use Rattle.joint.proofs.Base.Booleans.{◌⇒◌, mp, or_left, or_right}
use Rattle.joint.proofs.Safety.Tables.{has}
use Rattle.joint.proofs.Safety.Finite.{all_of, nth, look, all_bool, at_bool, all_outcome, at_outcome}
use Rattle.joint.proofs.Safety.Invariant.{Log, l0, l1, l12, l2, l123, l23, l3, l14, l4, kinds_in, Class, nothing, live, ended, class_of, resumed, Pace, waiting, resting, down, decided, log_fits, proper_kinds, awaits_commit, SetsFit, init_log}

-- with the end record
abbrev pub with_end : Log → Log
with_end l0 = l0
with_end l1 = l14
with_end l12 = l123
with_end l2 = l23
with_end l123 = l123
with_end l23 = l23
with_end l3 = l3
with_end l14 = l14
with_end l4 = l4

-- without the oldest record
abbrev pub older : Log → Log
older l0 = l0
older l1 = l0
older l12 = l2
older l2 = l0
older l123 = l23
older l23 = l3
older l3 = l0
older l14 = l4
older l4 = l0

-- with record 2
abbrev pub commit_log : Bool → Log
commit_log true = l12
commit_log false = l2

-- the record from which an outcome is resumed: Commit, Init
abbrev pub telling_kind : Outcome → ℕ
telling_kind commit = 2
telling_kind abort = 1

-- no record ends it
abbrev pub unended : Class → Bool
unended nothing = true
unended (live o) = true
unended (ended o) = false

-- ---- tests over all logs

abbrev logs : (Log → Bool) → List Bool
logs f = f l0 ∷ f l1 ∷ f l12 ∷ f l2 ∷ f l123 ∷ f l23 ∷ f l3 ∷ f l14 ∷ f l4 ∷ []

pub at_log : (f : Log → Bool) → T (all_of (logs f)) → (l : Log) → T (f l)
at_log f t l0 = look 0 (logs f) t
at_log f t l1 = look 1 (logs f) t
at_log f t l12 = look 2 (logs f) t
at_log f t l2 = look 3 (logs f) t
at_log f t l123 = look 4 (logs f) t
at_log f t l23 = look 5 (logs f) t
at_log f t l3 = look 6 (logs f) t
at_log f t l14 = look 7 (logs f) t
at_log f t l4 = look 8 (logs f) t

-- what holds of each log and outcome, whether record 1 is written (i), and whether an ack is owed for commit (a); w is any set
abbrev laws : ℕ → Bool → Bool → Outcome → Log → List Bool
laws w a i o l =
    -- 0: a coordinator that waits goes down, 1: one that rests
    (log_fits i o (waiting w) (class_of l) ⇒ log_fits i o down (class_of l))
    ∷ ((log_fits i o (resting true) (class_of l) || log_fits i o (resting false) (class_of l)) ⇒ log_fits i o down (class_of l))
    -- 2, 3: the end record becomes stable
    ∷ (log_fits i o (resting true) (class_of l) ⇒ log_fits i o (resting false) (class_of (with_end l)))
    ∷ (log_fits i o (resting true) (class_of l) ⇒ same (kinds_in (with_end l)) (kinds_in l ++ (end_record o ∷ [])))
    -- 4, 5: a discard
    ∷ (log_fits i o (resting false) (class_of l) ⇒ log_fits i o (resting false) (class_of (older l)))
    ∷ same (kinds_in (older l)) (drop 1 (kinds_in l))
    -- 6, 7: restart resumes, or does not
    ∷ (resumed (class_of l) ⇒ log_fits i o down (class_of l) ⇒ log_fits i o (waiting w) (class_of l))
    ∷ (log_fits i o down (class_of l) ⇒ log_fits i o (resting false) (class_of l))
    -- 8: the end record is written, 9: there is none to write
    ∷ ((i || same_outcome o commit) ⇒ log_fits i o (waiting w) (class_of l) ⇒ log_fits i o (resting true) (class_of l))
    ∷ (log_fits i o (waiting w) (class_of l) ⇒ log_fits i o (resting false) (class_of l))
    -- 10: record 2 is of a commit
    ∷ (has 2 (kinds_in l) ⇒ log_fits i o down (class_of l) ⇒ same_outcome o commit)
    -- 11: where nothing would be resumed it is an abort without record 1
    ∷ (log_fits i o (waiting w) (class_of l) ⇒ not (resumed (class_of l)) ⇒ (same_outcome o abort && not i))
    -- 12, 13: what restart asks of the kinds
    ∷ (log_fits i o down (class_of l) ⇒ alike (has 2 (kinds_in l) && not (has 3 (kinds_in l))) (same_outcome o commit && resumed (class_of l)))
    ∷ (log_fits i o down (class_of l) ⇒ alike (has 1 (kinds_in l) && not (has 2 (kinds_in l)) && not (has 4 (kinds_in l))) (same_outcome o abort && resumed (class_of l)))
    -- 14: record 2 stays; 15, 16: records 1 and 3 stand where they may
    ∷ (has 2 (kinds_in l) ⇒ has 2 (kinds_in (with_end l)))
    ∷ (log_fits i o (resting true) (class_of l) ⇒ (same_outcome o abort || a) ⇒ proper_kinds i a (kinds_in l) ⇒ proper_kinds i a (kinds_in (with_end l)))
    ∷ (proper_kinds i a (kinds_in l) ⇒ proper_kinds i a (kinds_in (older l)))
    -- 17: what is waited for, or whose end is unforced, has no stable end record
    ∷ ((log_fits i o (waiting w) (class_of l) || log_fits i o (resting true) (class_of l)) ⇒ unended (class_of l))
    -- 18: the record from which it is resumed
    ∷ (resumed (class_of l) ⇒ log_fits i o down (class_of l) ⇒ has (telling_kind o) (kinds_in l))
    ∷ []

law_tests : (w : ℕ) → T (all_bool (λ a. all_of (logs (λ l. all_outcome (λ o. all_bool (λ i. all_of (laws w a i o l)))))))
unfolding any same has same_outcome end_record
law_tests w = tt

law_of : (k w : ℕ) (a i : Bool) (o : Outcome) (l : Log) → T (nth k (laws w a i o l))
law_of k w a i o l =
    look k (laws w a i o l)
    (at_bool (λ i. all_of (laws w a i o l))
    (at_outcome (λ o. all_bool (λ i. all_of (laws w a i o l)))
    (at_log (λ l. all_outcome (λ o. all_bool (λ i. all_of (laws w a i o l))))
    (at_bool (λ a. all_of (logs (λ l. all_outcome (λ o. all_bool (λ i. all_of (laws w a i o l)))))) (law_tests w) a) l) o) i)

law : (k w : ℕ) (i : Bool) (o : Outcome) (l : Log) → T (nth k (laws w true i o l))
law k w i o l = law_of k w true i o l

-- ---- the laws, one by one

module _ (i : Bool) (o : Outcome) (l : Log) where
  abbrev Fits : Pace → Type 0
  Fits p = T (log_fits i o p (class_of l))

  pub waiting-down : (w : ℕ) → Fits (waiting w) → Fits down
  waiting-down w = mp (log_fits i o (waiting w) (class_of l)) (log_fits i o down (class_of l)) (law 0 w i o l)

  pub resting_down : (b : Bool) → Fits (resting b) → Fits down
  resting_down true f =
      mp (log_fits i o (resting true) (class_of l) || log_fits i o (resting false) (class_of l)) (log_fits i o down (class_of l)) (law 1 0 i o l)
      (or_left (log_fits i o (resting true) (class_of l)) (log_fits i o (resting false) (class_of l)) f)
  resting_down false f =
      mp (log_fits i o (resting true) (class_of l) || log_fits i o (resting false) (class_of l)) (log_fits i o down (class_of l)) (law 1 0 i o l)
      (or_right (log_fits i o (resting true) (class_of l)) (log_fits i o (resting false) (class_of l)) f)

  pub closed_fits : Fits (resting true) → T (log_fits i o (resting false) (class_of (with_end l)))
  closed_fits = mp (log_fits i o (resting true) (class_of l)) (log_fits i o (resting false) (class_of (with_end l))) (law 2 0 i o l)

  pub closed_kinds : Fits (resting true) → kinds_in (with_end l) ≡ kinds_in l ++ (end_record o ∷ [])
  closed_kinds f =
      same_list _ _
      (true_of _ (mp (log_fits i o (resting true) (class_of l)) (same (kinds_in (with_end l)) (kinds_in l ++ (end_record o ∷ []))) (law 3 0 i o l) f))

  pub older_fits : Fits (resting false) → T (log_fits i o (resting false) (class_of (older l)))
  older_fits = mp (log_fits i o (resting false) (class_of l)) (log_fits i o (resting false) (class_of (older l))) (law 4 0 i o l)

  pub older_kinds : kinds_in (older l) ≡ drop 1 (kinds_in l)
  older_kinds = same_list _ _ (true_of (same (kinds_in (older l)) (drop 1 (kinds_in l))) (law 5 0 i o l))

  pub resumed-waiting : (w : ℕ) → T (resumed (class_of l)) → Fits down → Fits (waiting w)
  resumed-waiting w r f =
      mp (log_fits i o down (class_of l)) (log_fits i o (waiting w) (class_of l))
      (mp (resumed (class_of l)) (log_fits i o down (class_of l) ⇒ log_fits i o (waiting w) (class_of l)) (law 6 w i o l) r) f

  pub down_resting : Fits down → Fits (resting false)
  down_resting = mp (log_fits i o down (class_of l)) (log_fits i o (resting false) (class_of l)) (law 7 0 i o l)

  pub end_written : (w : ℕ) → T (i || same_outcome o commit) → Fits (waiting w) → Fits (resting true)
  end_written w r f =
      mp (log_fits i o (waiting w) (class_of l)) (log_fits i o (resting true) (class_of l))
      (mp (i || same_outcome o commit) (log_fits i o (waiting w) (class_of l) ⇒ log_fits i o (resting true) (class_of l)) (law 8 w i o l) r) f

  pub end_unwritten : (w : ℕ) → Fits (waiting w) → Fits (resting false)
  end_unwritten w = mp (log_fits i o (waiting w) (class_of l)) (log_fits i o (resting false) (class_of l)) (law 9 w i o l)

  pub commit_record : T (has 2 (kinds_in l)) → Fits down → T (same_outcome o commit)
  commit_record r f =
      mp (log_fits i o down (class_of l)) (same_outcome o commit)
      (mp (has 2 (kinds_in l)) (log_fits i o down (class_of l) ⇒ same_outcome o commit) (law 10 0 i o l) r) f

  pub abort_unwritten : (w : ℕ) → Fits (waiting w) → T (not (resumed (class_of l)) ⇒ (same_outcome o abort && not i))
  abort_unwritten w = mp (log_fits i o (waiting w) (class_of l)) (not (resumed (class_of l)) ⇒ (same_outcome o abort && not i)) (law 11 w i o l)

  pub resumes_commit : Fits down → (has 2 (kinds_in l) && not (has 3 (kinds_in l))) ≡ (same_outcome o commit && resumed (class_of l))
  resumes_commit f =
      alike_eq _ _
      (mp (log_fits i o down (class_of l)) (alike (has 2 (kinds_in l) && not (has 3 (kinds_in l))) (same_outcome o commit && resumed (class_of l))) (law 12 0 i o l) f)

  pub resumes_abort : Fits down → (has 1 (kinds_in l) && not (has 2 (kinds_in l)) && not (has 4 (kinds_in l))) ≡ (same_outcome o abort && resumed (class_of l))
  resumes_abort f =
      alike_eq _ _
      (mp (log_fits i o down (class_of l)) (alike (has 1 (kinds_in l) && not (has 2 (kinds_in l)) && not (has 4 (kinds_in l))) (same_outcome o abort && resumed (class_of l))) (law 13 0 i o l) f)

  pub waiting_unended : (w : ℕ) → Fits (waiting w) → T (unended (class_of l))
  waiting_unended w f =
      mp (log_fits i o (waiting w) (class_of l) || log_fits i o (resting true) (class_of l)) (unended (class_of l)) (law 17 w i o l)
      (or_left (log_fits i o (waiting w) (class_of l)) (log_fits i o (resting true) (class_of l)) f)

  pub ending_unended : Fits (resting true) → T (unended (class_of l))
  ending_unended f =
      mp (log_fits i o (waiting 0) (class_of l) || log_fits i o (resting true) (class_of l)) (unended (class_of l)) (law 17 0 i o l)
      (or_right (log_fits i o (waiting 0) (class_of l)) (log_fits i o (resting true) (class_of l)) f)

  pub resumed_record : T (resumed (class_of l)) → Fits down → T (has (telling_kind o) (kinds_in l))
  resumed_record r f =
      mp (log_fits i o down (class_of l)) (has (telling_kind o) (kinds_in l))
      (mp (resumed (class_of l)) (log_fits i o down (class_of l) ⇒ has (telling_kind o) (kinds_in l)) (law 18 0 i o l) r) f

pub closed_has : (l : Log) → T (has 2 (kinds_in l)) → T (has 2 (kinds_in (with_end l)))
closed_has l = mp (has 2 (kinds_in l)) (has 2 (kinds_in (with_end l))) (law 14 0 true commit l)

module _ (i a : Bool) where
  pub closed_proper : (o : Outcome) (l : Log) → T (log_fits i o (resting true) (class_of l)) → T (same_outcome o abort || a)
      → T (proper_kinds i a (kinds_in l)) → T (proper_kinds i a (kinds_in (with_end l)))
  closed_proper o l f u p =
      mp (proper_kinds i a (kinds_in l)) (proper_kinds i a (kinds_in (with_end l)))
      (mp (same_outcome o abort || a) (proper_kinds i a (kinds_in l) ⇒ proper_kinds i a (kinds_in (with_end l)))
      (mp (log_fits i o (resting true) (class_of l)) ((same_outcome o abort || a) ⇒ proper_kinds i a (kinds_in l) ⇒ proper_kinds i a (kinds_in (with_end l))) (law_of 15 0 a i o l) f) u) p

  pub older_proper : (l : Log) → T (proper_kinds i a (kinds_in l)) → T (proper_kinds i a (kinds_in (older l)))
  older_proper l = mp (proper_kinds i a (kinds_in l)) (proper_kinds i a (kinds_in (older l))) (law_of 16 0 a i commit l)

-- ---- the logs with which a coordinator collects, and commits

-- i: record 1 is written, a: an ack is owed for commit
abbrev beginnings : ℕ → Bool → Bool → List Bool
beginnings w i a =
    -- 0, 1: an abort from there, down or waiting; 2: it is resumed where record 1 is written
    log_fits i abort down (class_of (init_log i))
    ∷ log_fits i abort (waiting w) (class_of (init_log i))
    ∷ (i ⇒ resumed (class_of (init_log i)))
    -- 3, 4: a commit; 5: it is resumed; 6, 7: with record 2 behind what was there
    ∷ log_fits i commit down (class_of (commit_log i))
    ∷ log_fits i commit (waiting w) (class_of (commit_log i))
    ∷ resumed (class_of (commit_log i))
    ∷ has 2 (kinds_in (commit_log i))
    ∷ same (kinds_in (commit_log i)) (kinds_in (init_log i) ++ (2 ∷ []))
    -- 8 to 11: records 1 and 3 stand where they may
    ∷ proper_kinds i a (kinds_in (init_log i))
    ∷ proper_kinds i a (kinds_in (commit_log i))
    ∷ proper_kinds i a []
    ∷ (i ⇒ proper_kinds i a (1 ∷ []))
    ∷ []

beginning_tests : (w : ℕ) → T (all_bool (λ i. all_bool (λ a. all_of (beginnings w i a))))
unfolding any same has same_outcome
beginning_tests w = tt

module _ (i : Bool) where
  beginning : (k w : ℕ) (a : Bool) → T (nth k (beginnings w i a))
  beginning k w a =
      look k (beginnings w i a)
      (at_bool (λ a. all_of (beginnings w i a)) (at_bool (λ i. all_bool (λ a. all_of (beginnings w i a))) (beginning_tests w) i) a)

  pub abort_down_lem : T (log_fits i abort down (class_of (init_log i)))
  abort_down_lem = beginning 0 0 true

  pub abort_waits : (w : ℕ) → T (log_fits i abort (waiting w) (class_of (init_log i)))
  abort_waits w = beginning 1 w true

  pub abort_resumed : T i → T (resumed (class_of (init_log i)))
  abort_resumed = mp i (resumed (class_of (init_log i))) (beginning 2 0 true)

  pub commit_down : T (log_fits i commit down (class_of (commit_log i)))
  commit_down = beginning 3 0 true

  pub commit_waits : (w : ℕ) → T (log_fits i commit (waiting w) (class_of (commit_log i)))
  commit_waits w = beginning 4 w true

  pub commit_resumed : resumed (class_of (commit_log i)) ≡ true
  commit_resumed = true_of (resumed (class_of (commit_log i))) (beginning 5 0 true)

  pub commit_has : T (has 2 (kinds_in (commit_log i)))
  commit_has = beginning 6 0 true

  pub commit_kinds : kinds_in (commit_log i) ≡ kinds_in (init_log i) ++ (2 ∷ [])
  commit_kinds = same_list _ _ (true_of (same (kinds_in (commit_log i)) (kinds_in (init_log i) ++ (2 ∷ []))) (beginning 7 0 true))

  pub initial_proper : (a : Bool) → T (proper_kinds i a (kinds_in (init_log i)))
  initial_proper a = beginning 8 0 a

  pub commit_proper : (a : Bool) → T (proper_kinds i a (kinds_in (commit_log i)))
  commit_proper a = beginning 9 0 a

  pub none_proper : (a : Bool) → T (proper_kinds i a [])
  none_proper a = beginning 10 0 a

  pub first_proper : (a : Bool) → T i → T (proper_kinds i a (1 ∷ []))
  first_proper a = mp i (proper_kinds i a (1 ∷ [])) (beginning 11 0 a)

-- a record 3 stands unforced where acks were owed
pub may_close : (g : Cohort) (o : Outcome) (out : ℕ) (l : Log) → SetsFit g (decided o out (resting true) l) → T (same_outcome o abort || awaits_commit (remaining g out))
unfolding same_outcome
may_close g commit out l s = s
may_close g abort out l s = tt
