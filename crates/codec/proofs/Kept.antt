-- What the reader and the writer keep of the records that they have passed: the newest of each transaction. Assumes nothing.
use mathlib.Core.Path.{◌≡◌, refl, ap, sym, ◌∙◌}
use mathlib.Core.Bool.{Bool, true, false, cond, ◌||◌, and-eq-true_iff, or-true}
use mathlib.Core.List.{List, [], ◌∷◌, ◌++◌, append-nil}
use Prim.Native.Nat.{ℕ, ◌<◌}
use native.Mathlib.Omega.{arith}
use borrow.Author.Tests.{eq-eqb, ne_eqb, eqb-true, eqb-false}
use lib.Dec.{eqb}
use lib.ListN.{length, get_or, set, replicate, get_or-replicate, length-set}
use lib.Seq.{get_or-set_same, get_or-set_other}
use Rattle.codec.specs.Lists.{select, any, same}
use Rattle.codec.specs.Records.{LogRecord, record_kind_at, sequences, of_transaction, in_sequence}
use Rattle.codec.specs.Answers.{record_in, no_record}
use Rattle.codec.specs.Inside.{may_follow}
use Rattle.codec.specs.declared.record.Record.{Record}
use Rattle.codec.proofs.Sequence.{kinds, legal, last_or, none, by_newest}

abbrev own : ℕ → List LogRecord → List LogRecord
own t log = select (of_transaction t) log

pub record Kept (s : ℕ) (newest : List Record) (done : List LogRecord) : Type 0 where
  pub size : length newest ≡ 8
  pub holds : (t : ℕ) → t < 8 → record_in (get_or newest t no_record) ≡ last_or none (own t done)
  pub ordered : (t : ℕ) → legal s (kinds (own t done)) ≡ true

pub kept_none : (s : ℕ) → Kept s (replicate 8 no_record) []
unfolding select any same sequences
kept_none s = record { size = refl; holds = λ t h. ap record_in (get_or-replicate 8 t no_record no_record h); ordered = λ t. refl }

-- ---- one record more

select_snoc : (f : LogRecord → Bool) (log : List LogRecord) (x : LogRecord) → select f (log ++ (x ∷ [])) ≡ select f log ++ cond (f x) (x ∷ []) []
unfolding select
select_snoc f [] x = refl
select_snoc f (y ∷ log) x = by (f y) (select f log) (cond (f x) (x ∷ []) []) (select_snoc f log x)
  where
    by : (b : Bool) {l : List LogRecord} (m r : List LogRecord) → l ≡ m ++ r → cond b (y ∷ l) l ≡ cond b (y ∷ m) m ++ r
    by true m r e = ap (y ∷◌) e
    by false m r e = e

legal_by : (s : ℕ) (ks : List ℕ) → any (same ks) (sequences s) ≡ true → legal s ks ≡ true
unfolding any
legal_by s ks e = ap (same ks [] ||◌) e ∙ or-true (same ks [])

module _ (x : LogRecord) where
  last_snoc : (z : LogRecord) (l : List LogRecord) → last_or z (l ++ (x ∷ [])) ≡ x
  last_snoc z [] = refl
  last_snoc z (y ∷ l) = last_snoc y l

  kinds_snoc : (l : List LogRecord) → kinds (l ++ (x ∷ [])) ≡ kinds l ++ (x.kind ∷ [])
  kinds_snoc [] = refl
  kinds_snoc (y ∷ l) = ap (y.kind ∷◌) (kinds_snoc l)

module _ (s : ℕ) (newest : List Record) (done : List LogRecord) (kept : Kept s newest done) (x : Record) (low : x.transaction < 8) where
  pub in_sequence_lem : record_kind_at s x.kind ≡ true → in_sequence s done (record_in x) ≡ may_follow (record_in (get_or newest x.transaction no_record)) (record_in x)
  unfolding in_sequence record_in
  in_sequence_lem h =
      by_newest s (record_in x) h (own x.transaction done) (kept.ordered x.transaction)
      ∙ ap (λ (y : LogRecord). may_follow y (record_in x)) (sym (kept.holds x.transaction low))

  more : (t : ℕ) → own t (done ++ (record_in x ∷ [])) ≡ own t done ++ cond (eqb x.transaction t) (record_in x ∷ []) []
  unfolding of_transaction record_in
  more t = select_snoc (of_transaction t) done (record_in x)

  more_own : own x.transaction (done ++ (record_in x ∷ [])) ≡ own x.transaction done ++ (record_in x ∷ [])
  more_own = more x.transaction ∙ rw (eq-eqb x.transaction x.transaction refl)

  more_other : (t : ℕ) → (x.transaction ≡ t → ⊥) → own t (done ++ (record_in x ∷ [])) ≡ own t done
  more_other t n = more t ∙ rw (ne_eqb x.transaction t n, append-nil)

  module _ (follows : in_sequence s done (record_in x) ≡ true) where
    holds_own : record_in (get_or (set newest x.transaction x) x.transaction no_record) ≡ last_or none (own x.transaction (done ++ (record_in x ∷ [])))
    holds_own = rw (get_or-set_same newest x.transaction x no_record (omega (arith, kept.size)), more_own, last_snoc)

    ordered_own : legal s (kinds (own x.transaction (done ++ (record_in x ∷ [])))) ≡ true
    unfolding in_sequence record_in
    ordered_own =
        let ks = kinds (own x.transaction done) ++ (x.kind ∷ []) in
        let now : kinds (own x.transaction (done ++ (record_in x ∷ []))) ≡ ks = ap kinds more_own ∙ kinds_snoc (record_in x) (own x.transaction done) in
        ap (legal s) now ∙ legal_by s ks ((and-eq-true_iff (any (same ks) (sequences s)) _).0 follows).0

    pub kept_next : Kept s (set newest x.transaction x) (done ++ (record_in x ∷ []))
    kept_next = record {
      size = rw length-set kept.size;
      holds = λ t h. holds_at t h (eqb x.transaction t) refl;
      ordered = λ t. ordered_at t (eqb x.transaction t) refl;
    }
      where
        holds_at : (t : ℕ) → t < 8 → (b : Bool) → eqb x.transaction t ≡ b
            → record_in (get_or (set newest x.transaction x) t no_record) ≡ last_or none (own t (done ++ (record_in x ∷ [])))
        holds_at t h true e = rw (← eqb-true x.transaction t e) holds_own
        holds_at t h false e =
            rw (get_or-set_other newest x.transaction t x no_record (λ p. eqb-false x.transaction t e (sym p)), more_other t (eqb-false x.transaction t e)) (kept.holds t h)

        ordered_at : (t : ℕ) (b : Bool) → eqb x.transaction t ≡ b → legal s (kinds (own t (done ++ (record_in x ∷ [])))) ≡ true
        ordered_at t true e = rw (← eqb-true x.transaction t e) ordered_own
        ordered_at t false e = rw (more_other t (eqb-false x.transaction t e)) (kept.ordered t)
