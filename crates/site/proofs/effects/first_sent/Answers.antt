use Prim.Native.Nat.{ℕ}
use mathlib.Core.Path.{◌≡◌, refl}
use native.Mathlib.Omega.{arith}
use lib.ListN.{length}
use Rattle.codec.specs.Sets.{listed, both}
use Rattle.site.specs.Coordinator.{in_turn}
use Rattle.site.proofs.Turned.{turn_beyond, cut_within, cut_behind}
use Rattle.site.proofs.effects.first_sent.Goals as goal
use Rattle.site.proofs.effects.first_sent.Goals.{then-transaction-gt-LAST_TRANSACTION, else-transaction-gt-LAST_TRANSACTION}

pub returns-then-most-count : goal.returns-then-most-count
returns-then-most-count c =
    let a = c.args in
    let s : (x : ℕ) → in_turn a.transaction x ≡ in_turn c.if-transaction-gt-LAST_TRANSACTION.start x = elim c.if-transaction-gt-LAST_TRANSACTION.branch [
      | then-transaction-gt-LAST_TRANSACTION w ↦ λ x. rw w.start-is (turn_beyond a.transaction x w.if-transaction-gt-LAST_TRANSACTION.true)
      | else-transaction-gt-LAST_TRANSACTION w ↦ λ x. rw w.start-is refl
    ] in
    let first = c.both-first.ensures in
    let count : c.size-count.result ≡ length (listed (both a.to a.owing)) = rw first at c.size-count.ensures in
    let r = rw first at c.first_in_turn.ensures in
    cut_within a.transaction c.if-transaction-gt-LAST_TRANSACTION.start a.owing a.to a.most c.first_in_turn.result s (omega arith) (omega (arith, c.if-most-count.true, count)) r.0 r.1

pub returns : goal.returns
returns c =
    let a = c.args in
    let s : (x : ℕ) → in_turn a.transaction x ≡ in_turn c.if-transaction-gt-LAST_TRANSACTION.start x = elim c.if-transaction-gt-LAST_TRANSACTION.branch [
      | then-transaction-gt-LAST_TRANSACTION w ↦ λ x. rw w.start-is (turn_beyond a.transaction x w.if-transaction-gt-LAST_TRANSACTION.true)
      | else-transaction-gt-LAST_TRANSACTION w ↦ λ x. rw w.start-is refl
    ] in
    let first = c.both-first.ensures in
    let count : c.size-count.result ≡ length (listed (both a.to a.owing)) = rw first at c.size-count.ensures in
    let r = rw (c.minus.ensures, count) at c.first_in_turn-others.ensures in
    rw (c.either.ensures, first)
    (cut_behind a.transaction c.if-transaction-gt-LAST_TRANSACTION.start a.owing a.to a.most c.first_in_turn-others.result s (omega arith) (omega (arith, c.if-most-count.false, count)) r.0 r.1)
