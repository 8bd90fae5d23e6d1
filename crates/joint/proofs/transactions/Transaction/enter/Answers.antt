use Prim.Native.Nat.{ℕ, zero, suc}
use mathlib.Core.Path.{◌≡◌, refl, sym}
use native.Mathlib.Omega.{arith}
use Rattle.site.specs.Numbers.{entry_of}
use Rattle.joint.specs.State as plain
use Rattle.joint.specs.Inside.{transaction_after}
use Rattle.joint.proofs.Engine.Transactions.{commit_entered, abort_entered}
use Rattle.joint.proofs.transactions.Transaction.enter.Goals as goal

nothing_entered : (s : ℕ) (x : plain.Transaction) (n : ℕ) → (n ≡ 1 → ⊥) → (n ≡ 2 → ⊥) → transaction_after s (entry_of n) x ≡ x
unfolding entry_of transaction_after
nothing_entered s x zero a b = refl
nothing_entered s x (suc zero) a b = absurd (a refl)
nothing_entered s x (suc (suc zero)) a b = absurd (b refl)
nothing_entered s x (suc (suc (suc n))) a b = refl

pub returns-in-1 : goal.returns-in-1
unfolding entry_of transaction_after
returns-in-1 c =
    let a = c.args in
    rw c.in-1.is (commit_entered a.self a.site.number c.with_bit.result c.with_bit.ensures)

pub returns-in-2 : goal.returns-in-2
unfolding entry_of transaction_after
returns-in-2 c =
    let a = c.args in
    rw c.in-2.is (abort_entered a.self a.site.number c.with_bit-in-2.result c.with_bit-in-2.ensures)

pub returns-in_default : goal.returns-in_default
returns-in_default c = sym (nothing_entered _ _ c.args.entered (omega arith) (omega arith))
