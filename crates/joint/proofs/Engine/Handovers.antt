-- The transactions opened with a site: the numbers that are counted, and the elements of a run's array.
use Prim.Native.Nat.{ℕ, suc, ◌+◌, ◌≤◌, ◌<◌}
use mathlib.Core.Path.{◌≡◌, refl, sym, ap, ◌∙◌}
use mathlib.Core.Bool.{Bool, true, false, not, ◌&&◌, cond}
use mathlib.Core.List.{List, [], ◌∷◌}
use native.Mathlib.Nat.{zero-add}
use native.Mathlib.Omega.{arith}
use lib.ListN.{length, drop, drop_of_length-le, get_or}
use Rattle.std.specs.Prelude.{count_by}
use Rattle.std.proofs.lemmas.List.Sums.{sum_by-cons}
use Rattle.codec.specs.Lists.{select}
use Rattle.codec.specs.Sets.{empty}
use Rattle.joint.specs.State as plain
use Rattle.joint.specs.State.{opened, takes_part}
use Rattle.joint.specs.Plan.{transactions}
use Rattle.joint.specs.Answers.{transaction_in, no_transaction, run_in, handovers_in}
use Rattle.joint.specs.declared.transactions.Transaction.{Transaction}
use Rattle.joint.specs.declared.run.Run.{Run}
use Rattle.joint.specs.Laws.Numbered.{numbered_from}

-- transactions opened with site s, and those from i on
module _ (r : plain.Run) (s : ℕ) where
  abbrev is_with : ℕ → Bool
  is_with t = opened r t && takes_part (r.transaction t) s

  abbrev left : ℕ → ℕ
  left i = length (select is_with (drop i transactions))

  next : (i : ℕ) → i < 8 → (b : Bool) → is_with i ≡ b → left i ≡ left (i + 1) + elim b [ true ↦ 1 | false ↦ 0 ]
  unfolding transactions select
  next i h true e = ap (λ (l : List ℕ). length (select is_with l)) (numbered_from transactions tt i h) ∙ rw e (omega arith)
  next i h false e = ap (λ (l : List ℕ). length (select is_with l)) (numbered_from transactions tt i h) ∙ rw e (omega arith)

  none : (i : ℕ) → 8 ≤ i → left i ≡ 0
  unfolding transactions select
  none i h = ap (λ (l : List ℕ). length (select is_with l)) (drop_of_length-le transactions {i = i} h)

  -- the elements of a list, from the one numbered i on
  counted_from : (p : Transaction → Bool) (l : List Transaction) (i : ℕ) → i + length l ≡ 8 → ((k n : ℕ) → n ≡ i + k → is_with n ≡ p (get_or l k no_transaction)) → count_by p l ≡ left i
  counted_from p [] i e h = sym (none i (omega (arith, e)))
  counted_from p (x ∷ l) i e h =
      sum_by-cons (λ x. cond (p x) 1 0) x l ∙ go (p x) (h 0 i (omega arith)) (counted_from p l (i + 1) (omega (arith, e)) (λ k n q. h (suc k) n (omega (arith, q))))
    where
      go : (b : Bool) → is_with i ≡ b → count_by p l ≡ left (i + 1) → cond b 1 0 + count_by p l ≡ left i
      go true f more = omega (arith, next i (omega (arith, e)) true f, more)
      go false f more = omega (arith, next i (omega (arith, e)) false f, more)

-- opened, and a site takes part
abbrev pub with_site : ℕ → Transaction → Bool
with_site s x = not (empty (transaction_in x).cohort.members) && takes_part (transaction_in x) s

pub counted : (r : Run) (s : ℕ) → length r.transactions ≡ 8 → count_by (with_site s) r.transactions ≡ handovers_in (run_in r) s
unfolding handovers_in run_in opened
counted r s e = counted_from (run_in r) s (with_site s) r.transactions 0 (omega (arith, e)) (λ k n q. rw (q, zero-add) refl)
