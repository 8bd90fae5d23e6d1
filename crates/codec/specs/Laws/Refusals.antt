-- What it tells that no refusal strikes: of a list of refusals, of the records of an image, and of the writer's call. Assumes nothing.
use Prim.Native.Nat.{ℕ, zero, suc, ◌+◌, ◌≤◌, ◌<◌}
use Rattle.std.specs.Prelude.{◌≡◌, refl, Bool, true, false, cond, not, ◌&&◌, T, eqb, leb}
use Rattle.std.proofs.Common.{ap, ap₂, ◌∙◌, arith}
use Rattle.std.proofs.Math.Path.{sym}
use Rattle.std.proofs.Math.Bool.{and-false}
use Rattle.std.proofs.lemmas.Bool.{false≢true}
use mathlib.Core.List.{List, [], ◌∷◌, ◌++◌, map}
use Rattle.std.proofs.Math.Dec.{ltb}
use Rattle.std.proofs.Math.ListN.{length}
use borrow.Author.Tests.{ne_eqb, not-false, lt-ltb, le-ltb, ltb-false}
use Rattle.codec.specs.Lists.{any, all, first}
use Rattle.codec.specs.Records.{LogRecord, bytes_of, record_of, length_of, kind_and_length, fields_in_range, in_sequence, record_tests, record_refusals}
use Rattle.codec.specs.Image.{image, log_refusals, write_refusals, stored, write_unless, write_image}
use Rattle.codec.specs.Answers.{written}
use Rattle.codec.specs.Laws.Tests.{and_left, and_right, or_none}
use Rattle.codec.specs.Laws.Fields.{not_one, no_kind_low}

-- ---- lists of refusals

-- the first refusal does not strike, nor do those behind it
pub passed : (n : ℕ) (test : Bool) (rest : ℕ) → cond test (suc n) rest ≡ 0 → (test ≡ false) × (rest ≡ 0)
passed n true rest e = absurd (omega arith)
passed n false rest e = (refl, e)

-- a number that refuses, or else another
abbrev pub or_else : ℕ → ℕ → ℕ
or_else zero m = m
or_else (suc n) m = suc n

neither : (n m : ℕ) → or_else n m ≡ 0 → (n ≡ 0) × (m ≡ 0)
neither zero m e = (refl, e)
neither (suc n) m e = absurd (omega arith)

-- no refusal has the number 0
abbrev numbered : List (ℕ × Bool) → Bool
numbered cs = all (λ c. leb 1 c.0) cs

-- they decide, or else those behind them
first_or : (cs ds : List (ℕ × Bool)) → T (numbered cs) → first (cs ++ ds) ≡ or_else (first cs) (first ds)
unfolding first all
first_or [] ds t = refl
first_or (c ∷ cs) ds t = by c.0 c.1 (and_left (leb 1 c.0) _ t) _ _ (first_or cs ds (and_right (leb 1 c.0) _ t))
  where
    by : (n : ℕ) (b : Bool) → T (leb 1 n) → (a m : ℕ) {k : ℕ} → k ≡ or_else a m → cond b n k ≡ or_else (cond b n a) m
    by zero b t a m e = absurd t
    by (suc n) true t a m e = refl
    by (suc n) false t a m e = e

-- where none strikes, none of number n does
none_strikes : (n : ℕ) (cs : List (ℕ × Bool)) → T (numbered cs) → first cs ≡ 0 → any (λ c. eqb c.0 n && c.1) cs ≡ false
unfolding first all any
none_strikes n [] t e = refl
none_strikes n (c ∷ cs) t e =
    let one = by c.0 c.1 (and_left (leb 1 c.0) _ t) e in
    rw (one.0, and-false, none_strikes n cs (and_right (leb 1 c.0) _ t) one.1)
  where
    by : (n : ℕ) (b : Bool) → T (leb 1 n) → {m : ℕ} → cond b n m ≡ 0 → (b ≡ false) × (m ≡ 0)
    by zero b t e = absurd t
    by (suc n) b t e = passed n b _ e

-- ---- records

record_bytes : (s : ℕ) (bytes : List ℕ) → kind_and_length s bytes ≡ true → bytes_of (record_of bytes) ≡ bytes
unfolding kind_and_length record_of bytes_of
record_bytes s [] e = absurd (false≢true (rw (no_kind_low s 0 (omega arith)) at e))
record_bytes s (kind ∷ []) e = absurd (false≢true (rw (ne_eqb 1 (length_of kind) (λ p. not_one kind (sym p)), and-false) at e))
record_bytes s (kind ∷ t ∷ fields) e = refl

module _ (s : ℕ) (before : List LogRecord) (bytes : List ℕ) where
  -- what the tests on a record tell where none strikes
  pub record Sound : Type 0 where
    pub shaped : kind_and_length s bytes ≡ true
    pub low : (record_of bytes).transaction < 8
    pub ranged : fields_in_range (record_of bytes) ≡ true
    pub follows : in_sequence s before (record_of bytes) ≡ true

  pub sound : first (record_tests s before bytes) ≡ 0 → Sound
  unfolding record_tests any all
  sound e =
      let tests = record_tests s before bytes in
      record {
        shaped = not-false (kind_and_length s bytes) (or_none (not (kind_and_length s bytes)) _ (none_strikes 23 tests tt e)).0;
        low = omega (arith, ltb-false 7 (record_of bytes).transaction (or_none (ltb 7 (record_of bytes).transaction) _ (none_strikes 27 tests tt e)).0);
        ranged = not-false (fields_in_range (record_of bytes)) (or_none (not (fields_in_range (record_of bytes))) _ (none_strikes 28 tests tt e)).0;
        follows = not-false (in_sequence s before (record_of bytes)) (or_none (not (in_sequence s before (record_of bytes))) _ (none_strikes 24 tests tt e)).0;
      }

  pub passes : Sound → first (record_tests s before bytes) ≡ 0
  unfolding record_tests first
  passes x = rw (x.shaped, le-ltb 7 (record_of bytes).transaction (omega (arith, x.low)), x.ranged, x.follows)

  -- the tests on a record decide, or else those behind them
  pub tests_or : (cs : List (ℕ × Bool)) → first (record_tests s before bytes ++ cs) ≡ or_else (first (record_tests s before bytes)) (first cs)
  unfolding record_tests all
  tests_or cs = first_or (record_tests s before bytes) cs tt

  pub record_passed : (cs : List (ℕ × Bool)) → first (record_tests s before bytes ++ cs) ≡ 0 → (first (record_tests s before bytes) ≡ 0) × (first cs ≡ 0)
  record_passed cs e = neither (first (record_tests s before bytes)) (first cs) (sym (tests_or cs) ∙ e)

-- records that no refusal strikes are the bytes of their log
pub records_bytes : (s : ℕ) (before : List LogRecord) (records : List (List ℕ)) → first (record_refusals s before records) ≡ 0
    → map bytes_of (map record_of records) ≡ records
unfolding record_refusals
records_bytes s before [] e = refl
records_bytes s before (bytes ∷ rest) e =
    let next = before ++ (record_of bytes ∷ []) in
    let one = record_passed s before bytes (record_refusals s next rest) e in
    ap₂ ◌∷◌ (record_bytes s bytes (sound s before bytes one.0).shaped) (records_bytes s next rest one.1)

pub log-records : (log : List LogRecord) → map record_of (map bytes_of log) ≡ log
unfolding record_of bytes_of
log-records [] = refl
log-records (x ∷ log) = ap (x ∷◌) (log-records log)

-- ---- the answer of the writer's call

records_numbered : (s : ℕ) (before : List LogRecord) (records : List (List ℕ)) → T (numbered (record_refusals s before records))
unfolding record_refusals record_tests all
records_numbered s before [] = tt
records_numbered s before (bytes ∷ records) = records_numbered s (before ++ (record_of bytes ∷ [])) records

write_answer : (n s : ℕ) (log : List LogRecord) (at : ℕ) (buffer : List ℕ) → (write_unless n s log at buffer).answer ≡ n
unfolding write_unless
write_answer zero s log at buffer = refl
write_answer (suc n) s log at buffer = refl

module _ (s : ℕ) (log : List LogRecord) (at : ℕ) (buffer : List ℕ) where
  refusal : first (write_refusals s log at buffer) ≡ or_else (first (log_refusals s log)) (cond (ltb (length buffer) (at + length (image s log))) 25 0)
  unfolding write_refusals log_refusals first all
  refusal = first_or (log_refusals s log) ((25, ltb (length buffer) (at + length (image s log))) ∷ []) (records_numbered s [] (map bytes_of log))

  pub write_refused : (n : ℕ) → n ≡ first (log_refusals s log) → (n ≡ 0 → ⊥) → written n buffer ≡ write_image s log at buffer
  unfolding write_image write_unless
  write_refused zero e z = absurd (z refl)
  write_refused (suc n) e z = rw (refusal, ← e)

  pub write_short : first (log_refusals s log) ≡ 0 → length buffer < at + length (image s log) → written 25 buffer ≡ write_image s log at buffer
  unfolding write_image write_unless
  write_short e h = rw (refusal, e, lt-ltb)

  pub write_whole : first (log_refusals s log) ≡ 0 → at + length (image s log) ≤ length buffer → written 0 (stored at (image s log) buffer) ≡ write_image s log at buffer
  unfolding write_image write_unless
  write_whole e h = rw (refusal, e, le-ltb)

  -- a call that answers 0 was not refused, and had room
  pub write_passed : (write_image s log at buffer).answer ≡ 0 → (first (log_refusals s log) ≡ 0) × (at + length (image s log) ≤ length buffer)
  unfolding write_image
  write_passed e =
      let none = neither (first (log_refusals s log)) _ (sym refusal ∙ sym (write_answer (first (write_refusals s log at buffer)) s log at buffer) ∙ e) in
      (none.0, ltb-false (length buffer) (at + length (image s log)) (passed 24 _ 0 none.1).0)
