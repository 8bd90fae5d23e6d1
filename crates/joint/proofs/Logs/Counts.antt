-- The records of a log, transaction by transaction: what holds of each transaction's holds of all, and their numbers add up.
use Prim.Native.Nat.{ℕ, zero, suc, ◌+◌, ◌≤◌, ◌<◌}
use mathlib.Core.Path.{◌≡◌, refl, subst, ap, sym, ◌∙◌}
use mathlib.Core.Logic.{⊎_elim}
use mathlib.Core.Bool.{Bool, true, false, cond}
use mathlib.Core.List.{List, [], ◌∷◌}
use lib.ListN.{length}
use native.Mathlib.Omega.{arith}
use borrow.Author.Tests.{eq-eqb}
use Rattle.codec.specs.Lists.{select}
use Rattle.codec.specs.Records.{LogRecord, of_transaction}
use Rattle.codec.specs.Laws.Tests.{lt_or_le}
use Rattle.joint.proofs.Base.Lists.{Each}

-- the records of transaction t
abbrev pub records_of : ℕ → List LogRecord → List LogRecord
records_of t xs = select (of_transaction t) xs

pub records_head : (x : LogRecord) (xs : List LogRecord) → records_of x.transaction (x ∷ xs) ≡ x ∷ records_of x.transaction xs
unfolding select of_transaction
records_head x xs = rw (eq-eqb x.transaction x.transaction refl)

-- a log without a record of any transaction is empty
pub no_record_lem : (xs : List LogRecord) → ((t : ℕ) → records_of t xs ≡ []) → xs ≡ []
no_record_lem [] h = refl
no_record_lem (x ∷ xs) h = absurd (omega (arith, ap length (sym (records_head x xs) ∙ h x.transaction)))

-- ---- what holds of each record

module _ (P : LogRecord → Type 0) where
  each_rest : (b : Bool) (x : LogRecord) (xs : List LogRecord) → Each P (cond b (x ∷ xs) xs) → Each P xs
  each_rest true x xs a = a.1
  each_rest false x xs a = a

  -- it holds of each transaction's records, so of all
  pub each-transaction : (xs : List LogRecord) → ((t : ℕ) → Each P (records_of t xs)) → Each P xs
  unfolding select
  each-transaction [] a = tt
  each-transaction (x ∷ xs) a =
      ((subst (Each P) (records_head x xs) (a x.transaction)).0, each-transaction xs (λ t. each_rest (of_transaction t x) x (records_of t xs) (a t)))

-- ---- sums over the numbers below n

abbrev pub sum_below : ℕ → (ℕ → ℕ) → ℕ
sum_below zero f = 0
sum_below (suc n) f = f n + sum_below n f

sum-most : (n : ℕ) (f g : ℕ → ℕ) → ((t : ℕ) → f t ≤ g t) → sum_below n f ≤ sum_below n g
sum-most zero f g h = omega arith
sum-most (suc n) f g h = omega (arith, h n, sum-most n f g h)

-- one of the numbers counts once more
sum_more : (n u : ℕ) (f g : ℕ → ℕ) → ((t : ℕ) → f t ≤ g t) → suc (f u) ≤ g u → u < n → suc (sum_below n f) ≤ sum_below n g
sum_more zero u f g h k l = absurd (omega arith)
sum_more (suc n) u f g h k l =
    ⊎_elim (λ m. omega (arith, h n, sum_more n u f g h k m))
    (λ m. let e : u ≡ n = omega arith in omega (arith, subst (λ (t : ℕ). suc (f t) ≤ g t) e k, sum-most n f g h)) (lt_or_le u n)

longer : (b : Bool) (x : LogRecord) (xs : List LogRecord) → length xs ≤ length (cond b (x ∷ xs) xs)
longer true x xs = omega arith
longer false x xs = omega arith

-- a log of transactions below n
counted : (n : ℕ) (xs : List LogRecord) → Each (λ x. x.transaction < n) xs → length xs ≤ sum_below n (λ t. length (records_of t xs))
unfolding select
counted n [] a = omega arith
counted n (x ∷ xs) a =
    omega (
      arith,
      counted n xs a.1,
      sum_more n x.transaction (λ t. length (records_of t xs)) (λ t. length (records_of t (x ∷ xs))) (λ t. longer (of_transaction t x) x (records_of t xs))
          (rw (records_head x xs) (omega arith)) a.0,
    )

-- with at most k of each transaction
pub counted-most : (n k : ℕ) (xs : List LogRecord) → Each (λ x. x.transaction < n) xs → ((t : ℕ) → length (records_of t xs) ≤ k)
    → length xs ≤ sum_below n (λ t. k)
counted-most n k xs a h = omega (arith, counted n xs a, sum-most n (λ t. length (records_of t xs)) (λ t. k) h)
