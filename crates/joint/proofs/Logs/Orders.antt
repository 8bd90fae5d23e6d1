-- Logs whose records of each transaction are its records, in order: no refusal strikes them.
use Prim.Native.Nat.{ℕ, zero, suc, ◌+◌, ◌≤◌, ◌<◌}
use mathlib.Core.Path.{◌≡◌, refl, sym, ap, ap₂, ◌∙◌, subst}
use mathlib.Core.Logic.{◌⊎◌, inl, inr, ⊎_elim}
use mathlib.Core.Bool.{Bool, true, false, cond, not, ◌&&◌, ◌||◌}
use mathlib.Core.List.{List, [], ◌∷◌, ◌++◌, map, append-nil, map-append}
use lib.ListN.{length}
use lib.Dec.{T, eqb, leb}
use native.Mathlib.Omega.{arith}
use borrow.Author.Tests.{le-leb, le-ltb, eqb-true, eqb-false, leb-true, not-true}
use Rattle.codec.specs.Lists.{select, any, all, every, same, first}
use Rattle.codec.specs.Sets.{member, empty, part}
use Rattle.codec.specs.Records.{LogRecord, bytes_of, record_of, lengths, length_of, members_in, presume_commit_in, awaits_acks, record_kind_at, kind_and_length, masks_in_range, fields_in_range, sequences, within_init, agrees, of_transaction, in_sequence, record_refusals}
use Rattle.codec.specs.Image.{most, over_limit, log_refusals}
use Rattle.codec.specs.Laws.Refusals.{Sound, passes, tests_or}
use Rattle.codec.specs.Laws.Tests.{and_left, and_right, true_of, of_true, lt_or_le}
use Rattle.codec.specs.Laws.Remaining.{remaining-part, remaining_within}
use Rattle.site.specs.Presumption.{presumption_number, presumed_abort, presumed_commit}
use Rattle.site.specs.Cohort.{Cohort, remaining, masks_of, presumption_of, writes_init}
use Rattle.joint.proofs.Base.Booleans.{and_both, or_left, or_right}
use Rattle.site.specs.Laws.Lists.{select-append}
use Rattle.joint.proofs.Safety.Invariant.{awaits_commit, record_for}
use Rattle.joint.proofs.Logs.Counts.{records_of, records_head}
use Rattle.joint.proofs.Safety.Tables.{has}
use Rattle.joint.proofs.Safety.Sets.{remaining_byte}
use Rattle.joint.proofs.Safety.Holds.{commit_awaits}

-- ---- kinds

-- kind k may stand behind the kinds ks of its transaction at site s; i: record 1 is written at begin, a: acks are owed for a commit
abbrev pub may_stand : ℕ → Bool → Bool → List ℕ → ℕ → Bool
may_stand s i a ks k = record_kind_at s k && ((not (eqb k 1) || i) && ((not (eqb k 3) || a) && any (same (ks ++ (k ∷ []))) (sequences s)))

-- each of the kinds js may stand behind ks and those before it
abbrev pub orderly : ℕ → Bool → Bool → List ℕ → List ℕ → Bool
orderly s i a ks [] = true
orderly s i a ks (j ∷ js) = may_stand s i a ks j && orderly s i a (ks ++ (j ∷ [])) js

pub order_front : (s : ℕ) (i a : Bool) (ks js ms : List ℕ) → T (orderly s i a ks (js ++ ms)) → T (orderly s i a ks js)
order_front s i a ks [] ms t = tt
order_front s i a ks (j ∷ js) ms t =
    and_both (may_stand s i a ks j) _ (and_left (may_stand s i a ks j) _ t) (order_front s i a (ks ++ (j ∷ [])) js ms (and_right (may_stand s i a ks j) _ t))

-- acks are owed for a commit, where the set `out` is taken out
abbrev pub owes : Cohort → ℕ → Bool
owes g out = awaits_commit (remaining g out)

-- ---- a cohort in range, and its records

-- its members are a byte and not 0, and PC is a part of them
pub record Ranged (g : Cohort) : Type 0 where
  pub some : 1 ≤ g.members
  pub byte : g.members < 256
  pub part : part g.presume_commit g.members ≡ true

presumption_small : (g : Cohort) (s : ℕ) → leb (presumption_number (presumption_of g s)) 1 ≡ true
unfolding presumption_of presumption_number
presumption_small g s = go (member s g.presume_commit)
  where
    go : (b : Bool) → leb (presumption_number (cond b presumed_commit presumed_abort)) 1 ≡ true
    go true = refl
    go false = refl

-- P holds of the n numbers from a on
abbrev From : (ℕ → Type 0) → ℕ → ℕ → Type 0
From P a zero = Unit {0}
From P a (suc n) = P a × From P (suc a) n

from_at : (P : ℕ → Type 0) (a n k : ℕ) → From P a n → a ≤ k → k < a + n → P k
from_at P a zero k f h l = absurd (omega arith)
from_at P a (suc n) k f h l =
    ⊎_elim (λ m. from_at P (suc a) n k f.1 m (omega arith)) (λ m. subst P (omega arith) f.0) (lt_or_le a k)

-- so it holds of a number from a to a + n
in_between : (P : ℕ → Type 0) (a n k : ℕ) → From P a (suc n) → T (leb a k && leb k (a + n)) → P k
in_between P a n k f t =
    let low = leb-true a k (true_of _ (and_left (leb a k) (leb k (a + n)) t)) in
    let high = leb-true k (a + n) (true_of _ (and_right (leb a k) (leb k (a + n)) t)) in
    from_at P a (suc n) k f low (omega (arith, high))

-- somebody remains where there is a record 2
abbrev Left : Cohort → ℕ → ℕ → Type 0
Left g out k = T (not (eqb k 2) || not (empty (remaining g out).members))

module _ (g : Cohort) (out t : ℕ) (m : Ranged g) where
  -- members and PC of the records 1 and 2
  masks : (h : Cohort) (k : ℕ) → 1 ≤ h.members → h.members < 256 → part h.presume_commit h.members ≡ true
      → masks_in_range (record { kind = k; transaction = t; fields = masks_of h }) ≡ true
  unfolding masks_in_range members_in presume_commit_in masks_of every
  masks h k some byte part = rw (le-leb 1 h.members some, le-leb h.members 255 (omega (arith, byte)), part)

  masks_left : T (not (empty (remaining g out).members)) → masks_in_range (record { kind = 2; transaction = t; fields = masks_of (remaining g out) }) ≡ true
  unfolding remaining empty
  masks_left e =
      masks (remaining g out) 2 (positive (remaining g out).members (eqb-false _ 0 (not-true _ (true_of _ e)))) (remaining_byte g out) (remaining-part g.presume_commit g.members m.part out)
    where
      positive : (n : ℕ) → (n ≡ 0 → ⊥) → 1 ≤ n
      positive zero k = absurd (k refl)
      positive (suc n) k = omega arith

  -- the record of kind k has its length and its fields, a record 1 where it is written
  abbrev Passes : ℕ → ℕ → Type 0
  Passes s k =
      T (not (eqb k 1) || writes_init g) → Left g out k
      → (kind_and_length s (bytes_of (record_for g out t s k)) ≡ true) × (fields_in_range (record_for g out t s k) ≡ true)

  record_is : (s k : ℕ) → T (record_kind_at s k) → Passes s k
  unfolding record_kind_at kind_and_length record_of bytes_of length_of lengths fields_in_range masks_of presume_commit_in
  record_is zero k =
      in_between (Passes 0) 1 3 k
      (λ b c. (refl, rw (masks g 1 m.some m.byte m.part, true_of (not (empty g.presume_commit)) b)), (λ b c. (refl, masks_left c), (λ b c. (refl, refl), (λ b c. (refl, refl), tt))))
  record_is (suc s) k =
      in_between (Passes (suc s)) 5 2 k (λ b c. (refl, presumption_small g (suc s)), (λ b c. (refl, refl), (λ b c. (refl, refl), tt)))

-- ---- the order of a transaction's records

module _ (g : Cohort) (out t s : ℕ) (within : part g.presume_commit g.members ≡ true) where
  records_agree : (j k : ℕ) → T (not (eqb k 3) || owes g out) → agrees (record_for g out t s j) (record_for g out t s k) ≡ true
  unfolding agrees
  records_agree j k a = ap₂ ◌&&◌ (one (eqb j 1) (eqb k 2) refl refl) (two (eqb j 2) (eqb k 3) refl refl a)
    where
      one : (b c : Bool) → eqb j 1 ≡ b → eqb k 2 ≡ c → (not (b && c) || within_init (record_for g out t s j) (record_for g out t s k)) ≡ true
      one true true e f = rw (eqb-true j 1 e, eqb-true k 2 f) (unfold members_in presume_commit_in masks_of remaining in remaining_within (record_for g out t s 1) (record_for g out t s 2) out within refl refl)
      one true false e f = refl
      one false c e f = refl

      two : (b c : Bool) → eqb j 2 ≡ b → eqb k 3 ≡ c → T (not c || owes g out) → (not (b && c) || awaits_acks (record_for g out t s j)) ≡ true
      two true true e f a = rw (eqb-true j 2 e, commit_awaits g out t s) (true_of (owes g out) a)
      two true false e f a = refl
      two false c e f a = refl

  kinds_of : (ks : List ℕ) → map (λ (y : LogRecord). y.kind) (map (record_for g out t s) ks) ≡ ks
  kinds_of [] = refl
  kinds_of (k ∷ ks) = ap (k ∷◌) (kinds_of ks)

  all_agree : (k : ℕ) → T (not (eqb k 3) || owes g out) → (ks : List ℕ) → all (λ y. agrees y (record_for g out t s k)) (map (record_for g out t s) ks) ≡ true
  unfolding all
  all_agree k a [] = refl
  all_agree k a (j ∷ ks) = rw (records_agree j k a, all_agree k a ks)

  record_follows : (before : List LogRecord) (ks : List ℕ) (k : ℕ) → records_of t before ≡ map (record_for g out t s) ks → T (not (eqb k 3) || owes g out)
      → T (any (same (ks ++ (k ∷ []))) (sequences s)) → in_sequence s before (record_for g out t s k) ≡ true
  unfolding in_sequence
  record_follows before ks k e a b = rw (e, kinds_of ks, all_agree k a ks, true_of (any (same (ks ++ (k ∷ []))) (sequences s)) b)

-- ---- logs

module _ (g : ℕ → Cohort) (s : ℕ) where
  -- of transaction t: the kinds of the records before, and of those that follow
  pub record Follows (t : ℕ) (before log : List LogRecord) : Type 0 where
    -- the set that was taken out, which record 2 leaves out
    pub out : ℕ
    pub earlier : List ℕ
    pub later : List ℕ
    pub is_earlier : records_of t before ≡ map (record_for (g t) out t s) earlier
    pub is_later : records_of t log ≡ map (record_for (g t) out t s) later
    pub order : T (orderly s (writes_init (g t)) (owes (g t) out) earlier later)
    pub ranged : (later ≡ []) ⊎ ((t < 8) × Ranged (g t))
    pub left : T (has 2 later) → T (not (empty (remaining (g t) out).members))

  records_one : (x : LogRecord) → records_of x.transaction (x ∷ []) ≡ x ∷ []
  records_one x = records_head x [] ∙ unfold select in refl

  record Head (x : LogRecord) (before log : List LogRecord) : Type 0 where
    here : Sound s before (bytes_of x)
    rest : Follows x.transaction (before ++ (x ∷ [])) log

  head_of : (x : LogRecord) (before log : List LogRecord) → Follows x.transaction before (x ∷ log) → Head x before log
  unfolding record_of bytes_of has any
  head_of x before log f = go f.later (sym (records_head x log) ∙ f.is_later) f.order f.ranged f.left
    where
      u : ℕ
      u = x.transaction

      put : ℕ → LogRecord
      put = record_for (g u) f.out u s

      i : Bool
      i = writes_init (g u)

      a : Bool
      a = owes (g u) f.out

      seen : (k : ℕ) → x ≡ put k → records_of u (before ++ (x ∷ [])) ≡ map put (f.earlier ++ (k ∷ []))
      seen k e =
          select-append (of_transaction u) before (x ∷ []) ∙ ap₂ ◌++◌ f.is_earlier (records_one x ∙ ap (λ (y : LogRecord). y ∷ []) e) ∙ sym (map-append put f.earlier (k ∷ []))

      sound_record : (k : ℕ) → T (record_kind_at s k) → T (not (eqb k 1) || i) → T ((not (eqb k 3) || a) && any (same (f.earlier ++ (k ∷ []))) (sequences s))
          → Left (g u) f.out k → u < 8 → Ranged (g u) → Sound s before (bytes_of (put k))
      sound_record k kind first last some low m =
          let own = record_is (g u) f.out u m s k kind first some in
          record {
            shaped = own.0;
            low = low;
            ranged = own.1;
            follows = record_follows (g u) f.out u s m.part before f.earlier k f.is_earlier (and_left (not (eqb k 3) || a) _ last) (and_right (not (eqb k 3) || a) _ last);
          }

      some_left : (k : ℕ) (ks : List ℕ) → (T (has 2 (k ∷ ks)) → T (not (empty (remaining (g u) f.out).members))) → Left (g u) f.out k
      some_left k ks w = by (eqb k 2) refl
        where
          by : (b : Bool) → eqb k 2 ≡ b → T (not b || not (empty (remaining (g u) f.out).members))
          by true q = w (unfold has any in or_left (eqb k 2) (has 2 ks) (of_true q))
          by false q = tt

      go : (ks : List ℕ) → x ∷ records_of u log ≡ map put ks → T (orderly s i a f.earlier ks) → (ks ≡ []) ⊎ ((u < 8) × Ranged (g u))
          → (T (has 2 ks) → T (not (empty (remaining (g u) f.out).members))) → Head x before log
      go [] e o r w = absurd (omega (arith, ap length e))
      go (k ∷ ks) e o (inl q) w = absurd (omega (arith, ap length q))
      go (k ∷ ks) e o (inr r) w =
          let here : x ≡ put k = cc in
          let stands = and_left (may_stand s i a f.earlier k) _ o in
          let kind = and_left (record_kind_at s k) _ stands in
          let others = and_right (record_kind_at s k) _ stands in
          let first = and_left (not (eqb k 1) || i) _ others in
          let last = and_right (not (eqb k 1) || i) _ others in
          record {
            here = subst (λ (y : LogRecord). Sound s before (bytes_of y)) (sym here) (sound_record k kind first last (some_left k ks w) r.0 r.1);
            rest =
                record {
                  out = f.out;
                  earlier = f.earlier ++ (k ∷ []);
                  later = ks;
                  is_earlier = seen k here;
                  is_later = cc;
                  order = and_right (may_stand s i a f.earlier k) _ o;
                  ranged = inr r;
                  left = λ z. w (or_right (eqb k 2) (has 2 ks) (unfold has any in z));
                };
          }

  -- a record of another transaction
  passed_by : (t : ℕ) (x : LogRecord) (before log : List LogRecord) → of_transaction t x ≡ false → Follows t before (x ∷ log)
      → Follows t (before ++ (x ∷ [])) log
  unfolding select
  passed_by t x before log e f =
      record {
        out = f.out;
        earlier = f.earlier;
        later = f.later;
        is_earlier = rw (select-append, e, append-nil) f.is_earlier;
        is_later = rw e at f.is_later;
        order = f.order;
        ranged = f.ranged;
        left = f.left;
      }

  next : (x : LogRecord) (before log : List LogRecord) → ((t : ℕ) → Follows t before (x ∷ log)) → (t : ℕ) → Follows t (before ++ (x ∷ [])) log
  next x before log f t = go (of_transaction t x) refl
    where
      go : (b : Bool) → of_transaction t x ≡ b → Follows t (before ++ (x ∷ [])) log
      go true e = subst (λ (u : ℕ). Follows u (before ++ (x ∷ [])) log) (eqb-true x.transaction t (unfold of_transaction in e)) (head_of x before log (f x.transaction)).rest
      go false e = passed_by t x before log e (f t)

  records_pass : (before log : List LogRecord) → ((t : ℕ) → Follows t before log) → first (record_refusals s before (map bytes_of log)) ≡ 0
  unfolding record_of bytes_of record_refusals
  records_pass before [] f = unfold first in refl
  records_pass before (x ∷ log) f =
      rw (tests_or s before (bytes_of x) (record_refusals s (before ++ (x ∷ [])) (map bytes_of log)), passes s before (bytes_of x) (head_of x before log (f x.transaction)).here)
      (records_pass (before ++ (x ∷ [])) log (next x before log f))

  pub log_passes : (log : List LogRecord) → s ≤ 8 → length log ≤ most s → ((t : ℕ) → Follows t [] log) → first (log_refusals s log) ≡ 0
  unfolding log_refusals over_limit first
  log_passes log small few f = rw (le-ltb 8 s small, le-ltb (most s) (length log) few) (records_pass [] log f)
