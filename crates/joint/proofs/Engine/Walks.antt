-- Look-ups among records, by transaction and kind.
use Prim.Native.Nat.{ℕ, suc, ◌≤◌, ◌<◌}
use mathlib.Core.Path.{◌≡◌, refl, sym, ap, ◌∙◌}
use mathlib.Core.Bool.{Bool, true, false, cond, ◌&&◌, ◌||◌, and-eq-true_iff, or-false, or_comm}
use mathlib.Core.List.{List, [], ◌∷◌, ◌++◌, map, map-append, append-nil, reverse, reverse-cons, reverse-reverse}
use native.Mathlib.Omega.{arith}
use borrow.Author.Tests.{eq-eqb, eqb-true, eqb-false}
use lib.ListN.{length, take, get_or, set, replicate, length-map, get_or-map}
use lib.Seq.{take-suc, get_or-set_same, get_or-set_other}
use lib.Dec.{eqb}
use Rattle.std.specs.Prelude.{Option, None, Some}
use Rattle.std.specs.List.{list_any, find}
use Rattle.std.specs.Option.{unwrap_or}
use Rattle.codec.specs.Lists.{select, any}
use Rattle.codec.specs.Records.{LogRecord, lengths, length_of, of_transaction, members_in, presume_commit_in}
use Rattle.codec.specs.Answers.{record_in, no_record}
use Rattle.codec.specs.Laws.Tests.{alike, alike_eq, below_at_2}
use Rattle.codec.specs.declared.record.Record.{Record}
use Rattle.site.specs.Cohort.{Cohort}
use Rattle.site.specs.Answers.{has_kind}
use Rattle.joint.specs.State.{holds, recorded_cohort}
use Rattle.joint.specs.Plan.{newest}
use Rattle.joint.proofs.Base.Booleans.{eqb-sym}
use Rattle.site.specs.Laws.Lists.{select-append}
use Rattle.joint.proofs.Base.Lists.{any_append}

-- one passes
pub any_passes : (f : LogRecord → Bool) (rs : List Record) → list_any (λ x. f (record_in x)) rs ≡ any f (map record_in rs)
unfolding any
any_passes f [] = refl
any_passes f (x ∷ rs) = ap (λ (b : Bool). f (record_in x) || b) (any_passes f rs)

-- ---- the newest that passes g

newest-last : (f : LogRecord → Bool) (xs : List LogRecord) (x : LogRecord) → newest f (xs ++ (x ∷ [])) ≡ f x
unfolding newest
newest-last f [] x = refl
newest-last f (y ∷ []) x = refl
newest-last f (y ∷ z ∷ xs) x = newest-last f (z ∷ xs) x

module _ (f g : LogRecord → Bool) where
  -- of the one that was found, if one was
  abbrev pub passes : Option Record → Bool
  passes None = false
  passes (Some x) = f (record_in x)

  -- newest first
  newest_of : (rs : List Record) → passes (find (λ x. g (record_in x)) rs) ≡ newest f (select g (map record_in (reverse rs)))
  unfolding newest select
  newest_of [] = refl
  newest_of (x ∷ rs) =
      rw (reverse-cons x rs, map-append, select-append) (go (g (record_in x)) (newest_of rs))
    where
      go : (b : Bool) → passes (find (λ x. g (record_in x)) rs) ≡ newest f (select g (map record_in (reverse rs)))
          → passes (cond b (Some x) (find (λ x. g (record_in x)) rs)) ≡ newest f (select g (map record_in (reverse rs)) ++ cond b (record_in x ∷ []) [])
      go true e = sym (newest-last f (select g (map record_in (reverse rs))) (record_in x))
      go false e = e ∙ ap (newest f) (sym (append-nil (select g (map record_in (reverse rs)))))

  pub newest_passes : (rs : List Record) → passes (find (λ x. g (record_in x)) (reverse rs)) ≡ newest f (select g (map record_in rs))
  newest_passes rs = newest_of (reverse rs) ∙ ap (λ (xs : List Record). newest f (select g (map record_in xs))) (reverse-reverse rs)

-- ---- the cohort in the oldest record 2, or in the oldest record 1

abbrev masks_at : LogRecord → Cohort
masks_at x = record { members = members_in x; presume_commit = presume_commit_in x }

-- records 1 and 2 have two fields
masks_in : (x : Record) (b : Bool) → x.kind ≡ cond b 2 1 → masks_at (record_in x) ≡ record { members = x.first; presume_commit = x.second }
unfolding record_in members_in presume_commit_in length_of lengths
masks_in x true e = rw e refl
masks_in x false e = rw e refl

module _ (t : ℕ) (b : Bool) where
  abbrev pub recorded : Record → Bool
  recorded x = eqb x.transaction t && eqb x.kind (cond b 2 1)

  pub masks_recorded : (rs : List Record) → let x = unwrap_or (find recorded rs) no_record in
      record { members = x.first; presume_commit = x.second } ≡ recorded_cohort t (cond b 2 1) (map record_in rs)
  unfolding recorded_cohort of_transaction record_in
  masks_recorded [] = refl
  masks_recorded (x ∷ rs) = go (recorded x) refl (masks_recorded rs)
    where
      go : (p : Bool) → recorded x ≡ p → let y = unwrap_or (find recorded rs) no_record in
          ◌≡◌ {A = Cohort} (record { members = y.first; presume_commit = y.second }) (recorded_cohort t (cond b 2 1) (map record_in rs))
          → let z = unwrap_or (cond p (Some x) (find recorded rs)) no_record in
          ◌≡◌ {A = Cohort} (record { members = z.first; presume_commit = z.second }) (cond p (masks_at (record_in x)) (recorded_cohort t (cond b 2 1) (map record_in rs)))
      go true q more = sym (masks_in x b (eqb-true x.kind (cond b 2 1) ((and-eq-true_iff (eqb x.transaction t) (eqb x.kind (cond b 2 1))).0 q).1))
      go false q more = more

-- ---- the kinds of each transaction

-- by transaction and kind up to 7: the sets of the kinds of the first i records
abbrev pub Collected : List Record → List ℕ → ℕ → Type 0
Collected rs kinds i = (t k : ℕ) → t ≤ 7 → k ≤ 7 → has_kind (get_or kinds t 0) k ≡ holds t k (take i (map record_in rs))

pub collect_starts : (rs : List Record) → Collected rs (replicate 8 0) 0
unfolding has_kind holds any
collect_starts rs t k ht hk =
    alike_eq _ _ (below_at_2 8 8 (λ t k. alike (has_kind (get_or (replicate 8 0) t 0) k) false) tt t k (omega arith) (omega arith))

-- a transaction or a kind above 7 is another one
another : (a b t k : ℕ) → t ≤ 7 → k ≤ 7 → (a ≤ 7 → b ≤ 7 → ⊥) → (eqb a t && eqb b k) ≡ false
another a b t k ht hk e = go (eqb a t) (eqb b k) refl refl
  where
    go : (p q : Bool) → eqb a t ≡ p → eqb b k ≡ q → (p && q) ≡ false
    go true true p q = absurd (e (omega (arith, eqb-true a t p)) (omega (arith, eqb-true b k q)))
    go true false p q = refl
    go false q h l = refl

-- ---- record i is the last of the first n

module _ (rs : List Record) (i n : ℕ) (next : suc i ≡ n) (lt : i < length rs) where
  one_more : take n (map record_in rs) ≡ take i (map record_in rs) ++ (record_in (get_or rs i no_record) ∷ [])
  one_more =
      rw (← next, ← get_or-map record_in rs i no_record) (take-suc (map record_in rs) i (record_in no_record) (rw length-map lt))

  -- a kind among t's records: record i has it, or it was there before
  holds_more : (t k : ℕ) → holds t k (take n (map record_in rs))
      ≡ (holds t k (take i (map record_in rs)) || (eqb (get_or rs i no_record).transaction t && eqb (get_or rs i no_record).kind k))
  unfolding holds any of_transaction record_in
  holds_more t k = rw (one_more, any_append, or-false)

  holds_here : (k : ℕ) → let x = get_or rs i no_record in
      (eqb k x.kind || holds x.transaction k (take i (map record_in rs))) ≡ holds x.transaction k (take n (map record_in rs))
  holds_here k =
      let x = get_or rs i no_record in
      rw (holds_more x.transaction k, eq-eqb x.transaction x.transaction refl, eqb-sym k x.kind)
      (or_comm (eqb x.kind k) (holds x.transaction k (take i (map record_in rs))))

  holds-before : (t k : ℕ) → (eqb (get_or rs i no_record).transaction t && eqb (get_or rs i no_record).kind k) ≡ false
      → holds t k (take i (map record_in rs)) ≡ holds t k (take n (map record_in rs))
  holds-before t k e = rw (holds_more t k, e) (sym (or-false _))

  -- the sets of kinds, with record i's kind at its transaction, or as they were where that is none that is asked for
  pub collect_more : (kinds : List ℕ) (v : ℕ) → let x = get_or rs i no_record in
      x.transaction < length kinds → ((k : ℕ) → has_kind v k ≡ (eqb k x.kind || has_kind (get_or kinds x.transaction 0) k))
      → Collected rs kinds i → Collected rs (set kinds x.transaction v) n
  collect_more kinds v h more w t k ht hk = go (eqb t (get_or rs i no_record).transaction) refl
    where
      go : (b : Bool) → eqb t (get_or rs i no_record).transaction ≡ b
          → has_kind (get_or (set kinds (get_or rs i no_record).transaction v) t 0) k ≡ holds t k (take n (map record_in rs))
      go true q =
          let e : t ≡ (get_or rs i no_record).transaction = eqb-true t _ q in
          rw (e, get_or-set_same kinds (get_or rs i no_record).transaction v 0 h) (more k ∙ rw (w _ k (rw e at ht) hk) (holds_here k))
      go false q =
          rw (get_or-set_other kinds (get_or rs i no_record).transaction t v 0 (eqb-false t _ q))
          (w t k ht hk ∙ holds-before t k (rw (eqb-sym (get_or rs i no_record).transaction t, q) refl))

  pub collect_none : (kinds : List ℕ) → ((get_or rs i no_record).transaction ≤ 7 → (get_or rs i no_record).kind ≤ 7 → ⊥)
      → Collected rs kinds i → Collected rs kinds n
  collect_none kinds e w t k ht hk =
      let x = get_or rs i no_record in
      w t k ht hk ∙ holds-before t k (another x.transaction x.kind t k ht hk e)
