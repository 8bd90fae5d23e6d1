-- The records passed so far, one after the other: what the reader's and the writer's loops have in common. Assumes nothing.
use mathlib.Core.Path.{◌≡◌, refl, ap, sym, ◌∙◌}
use mathlib.Core.Bool.{Bool, true, false, cond, not, and-eq-true_iff}
use mathlib.Core.List.{List, [], ◌∷◌, ◌++◌, map}
use Prim.Native.Nat.{ℕ, zero, suc, ◌+◌, ◌<◌, ◌≤◌}
use native.Mathlib.Numerals.{add-one}
use native.Mathlib.Omega.{arith}
use borrow.Author.Tests.{ltb-false, not-false}
use lib.Dec.{ltb}
use lib.ListN.{length, get_or, set, take, drop, replicate, length-map, drop_of_length-le, get_or-map}
use lib.Seq.{drop-cons, take-suc}
use Rattle.codec.specs.Lists.{first}
use Rattle.codec.specs.Records.{LogRecord, record_of, record_kind_at, kind_and_length, fields_in_range, in_sequence, record_tests, record_refusals, further_unless, first_bad}
use Rattle.std.specs.Prelude.{Result, Ok, Err}
use Rattle.codec.specs.Answers.{record_in, no_record, refusal_number, result_number}
use Rattle.codec.specs.Inside.{may_follow, answer_to, answer_on}
use Rattle.codec.specs.declared.record.Record.{Record}
use Rattle.codec.specs.declared.refusal.Refusal.{Refusal}
use Rattle.codec.specs.declared.refusal.Refusal.TheVariants.{NoOpening, OverLimit, TableNotExact, WrongKind, OutOfSequence, NoRoom, NoMessage, WrongTransaction, WrongField}
use Rattle.codec.specs.Laws.Refusals.{or_else, sound, tests_or}
use Rattle.codec.proofs.Kept.{Kept, kept_none, kept_next, in_sequence_lem}

-- the first i records have passed, and the newest of each transaction is kept
pub record Passed (s : ℕ) (records : List (List ℕ)) (newest : List Record) (i : ℕ) : Type 0 where
  pub upto : i ≤ length records
  pub kept : Kept s newest (take i (map record_of records))
  pub left : first (record_refusals s [] records) ≡ first (record_refusals s (take i (map record_of records)) (drop i records))
  pub index : first_bad s [] records ≡ i + first_bad s (take i (map record_of records)) (drop i records)

pub passed_none : (s : ℕ) (records : List (List ℕ)) → Passed s records (replicate 8 no_record) 0
passed_none s records = record { upto = omega arith; kept = kept_none s; left = refl; index = omega arith }

pub passed_all : (s : ℕ) (records : List (List ℕ)) (newest : List Record) (i : ℕ) → length records ≤ i → Passed s records newest i
    → first (record_refusals s [] records) ≡ 0
unfolding record_refusals first
passed_all s records newest i h p = rw (p.left, drop_of_length-le records {i = i} h)

-- ---- one record

-- no refusal has the number 0
pub refusal_not_zero : (e : Refusal) → refusal_number e ≡ 0 → ⊥
refusal_not_zero NoOpening h = omega arith
refusal_not_zero OverLimit h = omega arith
refusal_not_zero TableNotExact h = omega arith
refusal_not_zero WrongKind h = omega arith
refusal_not_zero OutOfSequence h = omega arith
refusal_not_zero NoRoom h = omega arith
refusal_not_zero NoMessage h = omega arith
refusal_not_zero WrongTransaction h = omega arith
refusal_not_zero WrongField h = omega arith

-- an answer that is no accepted record has a number
pub not-accepted : (a : Result Record Refusal) → ((x : Record) → a ≡ Ok x → ⊥) → result_number a ≡ 0 → ⊥
not-accepted (Ok x) n e = n x refl
not-accepted (Err r) n e = refusal_not_zero r e

-- an accepted answer tells that no test struck
pub taken : (a b c d : Bool) (x r : Record) → answer_to a b c d x ≡ Ok r → (a ≡ false) × (x ≡ r)
unfolding answer_to
taken true b c d x r e = absurd cc
taken false true c d x r e = absurd cc
taken false false true d x r e = absurd cc
taken false false false true x r e = absurd cc
taken false false false false x r e = (refl, cc)

module _ (s : ℕ) (records : List (List ℕ)) (newest : List Record) (i : ℕ) (p : Passed s records newest i) (more : i < length records) (x : Record) where
  abbrev here : List ℕ
  here = get_or records i []

  abbrev done : List LogRecord
  done = take i (map record_of records)

  abbrev behind : LogRecord
  behind = record_in (get_or newest x.transaction no_record)

  -- the program's answer, and the number that the definitions give
  abbrev answer : Result Record Refusal
  answer = answer_on s here behind x

  abbrev number : ℕ
  number = first (record_tests s done here)

  module _ (read : kind_and_length s here ≡ true → record_in x ≡ record_of here) where
    same-transaction : kind_and_length s here ≡ true → (record_of here).transaction ≡ x.transaction
    unfolding record_in
    same-transaction e = sym (ap (λ (y : LogRecord). y.transaction) (read e))

    kind_here : kind_and_length s here ≡ true → record_kind_at s x.kind ≡ true
    unfolding kind_and_length record_in
    kind_here e = rw (ap (λ (y : LogRecord). y.kind) (read e)) ((and-eq-true_iff (record_kind_at s (record_of here).kind) _).0 e).0

    rule : kind_and_length s here ≡ true → (record_of here).transaction < 8 → in_sequence s done (record_of here) ≡ may_follow behind (record_of here)
    rule e h = rw (← read e) (in_sequence_lem s newest done p.kept x (omega (arith, same-transaction e)) (kind_here e))

    number_is : result_number answer ≡ number
    unfolding answer_to record_tests first
    number_is = by (not (kind_and_length s here)) (ltb 7 (record_of here).transaction) (not (fields_in_range (record_of here))) refl refl
      where
        last : (m : Bool) → result_number (answer_to false false false (not m) x) ≡ cond (not m) 24 0
        last true = refl
        last false = refl

        by : (a b c : Bool) → not (kind_and_length s here) ≡ a → ltb 7 (record_of here).transaction ≡ b
            → result_number (answer_to a b c (not (may_follow behind (record_of here))) x) ≡ cond a 23 (cond b 27 (cond c 28 (cond (not (in_sequence s done (record_of here))) 24 0)))
        by true b c e h = refl
        by false true c e h = refl
        by false false true e h = refl
        by false false false e h =
            rw (rule (not-false (kind_and_length s here) e) (omega (arith, ltb-false 7 (record_of here).transaction h))) (last (may_follow behind (record_of here)))

    -- the tests on this record decide, and the others follow
    split : first (record_refusals s [] records) ≡ or_else number (first (record_refusals s (done ++ (record_of here ∷ [])) (drop (suc i) records)))
    unfolding record_refusals
    split = p.left ∙ rw (drop-cons records i [] more) (tests_or s done here _)

    index_here : first_bad s [] records ≡ i + further_unless number (first_bad s (done ++ (record_of here ∷ [])) (drop (suc i) records))
    unfolding first_bad
    index_here = p.index ∙ rw (drop-cons records i [] more)

    -- a record that is not accepted ends with its number and its index
    pub stopped : (e : Refusal) → answer ≡ Err e → (refusal_number e ≡ first (record_refusals s [] records)) × (first_bad s [] records ≡ i)
    unfolding further_unless
    stopped e is =
        let next = done ++ (record_of here ∷ []) in
        let refused : refusal_number e ≡ number = sym (ap result_number is) ∙ number_is in
        let struck = by number (first (record_refusals s next (drop (suc i) records))) (first_bad s next (drop (suc i) records)) (λ z. refusal_not_zero e (refused ∙ z)) in
        (refused ∙ sym (split ∙ struck.0), index_here ∙ rw struck.1 (omega arith))
      where
        by : (k m j : ℕ) → (k ≡ 0 → ⊥) → (or_else k m ≡ k) × (further_unless k j ≡ 0)
        by zero m j n = absurd (n refl)
        by (suc k) m j n = (refl, refl)

    pub done_next : take (i + 1) (map record_of records) ≡ done ++ (record_of here ∷ [])
    unfolding record_of
    done_next =
        rw (add-one, take-suc (map record_of records) i (record_of []) (rw length-map more), get_or-map record_of records i [])

    next_x : number ≡ 0 → Passed s records (set newest x.transaction x) (i + 1)
    unfolding further_unless
    next_x e =
        let none = sound s done here e in
        let low : x.transaction < 8 = omega (arith, same-transaction none.shaped, none.low) in
        record {
          upto = omega arith;
          kept = rw (done_next, ← read none.shaped) (kept_next s newest done p.kept x low (rw (← read none.shaped) at none.follows));
          left = split ∙ rw (e, done_next, add-one);
          index = index_here ∙ rw (e, done_next, add-one) (omega arith);
        }

    pub passed_next : (r : Record) → answer ≡ Ok r → Passed s records (set newest r.transaction r) (i + 1)
    passed_next r is = rw (← (taken _ _ _ _ x r is).1) (next_x (sym number_is ∙ ap result_number is))
