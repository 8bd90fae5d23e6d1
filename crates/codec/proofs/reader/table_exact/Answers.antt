use mathlib.Core.Path.{◌≡◌, refl, sym, ◌∙◌, ap}
use Prim.Native.Nat.{ℕ, ◌+◌, ◌*◌, ◌<◌}
use native.Mathlib.Omega.{arith}
use borrow.Author.Rules.{rules}
use borrow.Author.Tests.{lt-leb}
use Rattle.codec.specs.Image.{head_length, count_in, table_exact}
use Rattle.codec.specs.Inside.{word_at}
use Rattle.codec.specs.Laws.Pairs.{exact-start, exact_next, not-exact, exact_end}
use Rattle.codec.proofs.reader.table_exact.Goals as goal
use Rattle.codec.proofs.reader.table_exact.Goals.{After-pair-offset}

offset : (c : After-pair-offset) → c.pair-offset.result.0 ≡ word_at c.args.bytes.now (6 + 4 * c.loop-i.i)
offset c = ap (λ (p : ℕ × ℕ). p.0) c.pair-offset.ensures

size : (c : After-pair-offset) → c.pair-offset.result.1 ≡ word_at c.args.bytes.now (6 + 4 * c.loop-i.i + 2)
size c = ap (λ (p : ℕ × ℕ). p.1) c.pair-offset.ensures

small : (c : After-pair-offset) → c.pair-offset.result.1 < 65536
small c = search rules

pub returns-then-bytes-at : goal.returns-then-bytes-at
unfolding table_exact head_length count_in
returns-then-bytes-at c = rw (lt-leb _ _ (rw c.head_length-at.ensures at c.if-bytes-at.true))

pub loop-i-init : goal.loop-i-init
unfolding count_in head_length
loop-i-init c = rw c.head_length-at.ensures (exact-start _ _ refl (omega (arith, c.type_inv.bytes 5)) (rw c.head_length-at.ensures at c.if-bytes-at.false))

pub returns-then-from-at : goal.returns-then-from-at
returns-then-from-at c =
    sym (not-exact _ _ _ _ c.loop-i.invariant (rw c.from-i-end.ensures at c.loop-i-test.true) (λ e. c.if-from-at.true (c.from.ensures ∙ offset (goal.at.returns-then-from-at c).After-pair-offset ∙ e)))

pub loop-i-preserved : goal.loop-i-preserved
loop-i-preserved c =
    let w = (goal.at.loop-i-preserved c).After-pair-offset in
    rw (c.from-at.ensures, size w) (exact_next _ _ _ _ c.loop-i.invariant (rw c.from-i-end.ensures at c.loop-i-test.true) (sym (offset w) ∙ sym c.from.ensures ∙ c.if-from-at.false) (rw (size w) at (small w)))

pub returns : goal.returns
returns c = sym (exact_end _ _ _ _ c.loop-i.invariant (rw c.from-i-end.ensures at c.loop-i-test.false))
