-- The bill as the program works it out: a part of a set has no more members than the set, and the numbers are the bill's.
use mathlib.Core.Path.{◌≡◌, refl, ◌∙◌}
use mathlib.Core.Bool.{Bool, true, false, cond, not, ◌&&◌, ◌||◌, false≢true}
use Prim.Native.Nat.{ℕ, ◌+◌, ◌-◌, ◌*◌, ◌≤◌}
use lib.Dec.{eqb}
use lib.ListN.{length}
use borrow.Author.Tests.{not-false}
use Rattle.codec.specs.Sets.{participants, member, empty, listed, part}
use Rattle.codec.specs.Laws.Tests.{or_none}
use Rattle.codec.specs.Laws.Listed.{size-most}
use Rattle.joint.specs.Run.{Answer}
use Rattle.joint.specs.Bill.{size, one_if, bill, bill_for}
use Rattle.joint.specs.Answers.{refusal_number}
use Rattle.joint.proofs.Base.Lists.{select-within}
use Rattle.joint.proofs.Safety.Sets.{part_within}

-- a part has no more members
pub part-size : (a b : ℕ) → part a b ≡ true → length (listed a) ≤ length (listed b)
unfolding listed
part-size a b e = select-within (λ p. member p b) (λ p. member p a) (part_within a b e) participants

-- a set has eight members at most
pub ruleset sizes = size-most

-- ---- the test, and the numbers

abbrev pub wrong : ℕ → ℕ → Bool
wrong members pc = eqb members 0 || not (part pc members)

pub bill-refused : (members pc : ℕ) → wrong members pc ≡ true → refusal_number 1 ≡ bill_for members pc
unfolding bill_for refusal_number empty
bill-refused members pc e = by _ (eqb members 0) (part pc members) e
  where
    by : (x : Answer) (a b : Bool) → (a || not b) ≡ true → refusal_number 1 ≡ cond (not a && b) x (refusal_number 1)
    by x true b k = refl
    by x false true k = absurd (false≢true k)
    by x false false k = refl

module _ (members pc : ℕ) (right : wrong members pc ≡ false) where
  pub within : part pc members ≡ true
  within = not-false (part pc members) (or_none (eqb members 0) _ right).1

  one_if_lem : (k : ℕ) → cond (not (eqb k 0)) 1 0 ≡ one_if k
  unfolding one_if
  one_if_lem k = by (eqb k 0)
    where
      by : (b : Bool) → ◌≡◌ {A = ℕ} (cond (not b) 1 0) (cond b 0 1)
      by true = refl
      by false = refl

  pub bill_priced : (n c s u : ℕ) → n ≡ length (listed members) → c ≡ length (listed pc) → s ≡ cond (not (eqb c 0)) 1 0 → u ≡ cond (not (eqb (n - c) 0)) 1 0
      → ◌≡◌ {A = Answer} (record { number = 0; records = 2 * n + 1 + s + u; forces = n + (n - c) + 1 + s; sends = 3 * n + (n - c) }) (bill_for members pc)
  unfolding bill_for bill size empty
  bill_priced n c s u en ec es eu =
      rw (within, (or_none (eqb members 0) _ right).0, es ∙ one_if_lem c, eu ∙ one_if_lem (n - c), en, ec) refl
