use Prim.Native.Nat.{ℕ, ◌-◌, ◌<◌}
use mathlib.Core.Path.{◌≡◌, sym, ap, ◌∙◌}
use mathlib.Core.Bool.{Bool, not}
use mathlib.Core.List.{List}
use lib.ListN.{length, get_or}
use lib.Seq.{set-get_or}
use native.Mathlib.Omega.{arith}
use Rattle.codec.specs.Sets.{empty}
use Rattle.site.specs.Answers.{effects_in}
use Rattle.joint.specs.State as plain
use Rattle.joint.specs.Answers.{transaction_in, transactions_in, no_transaction}
use Rattle.joint.specs.Inside.{transaction_after, then_transaction, resumed_in}
use Rattle.joint.specs.declared.transactions.Transaction.{Transaction}
use Rattle.joint.proofs.Engine.Arrays.{length-shown}
use Rattle.joint.proofs.Engine.Effects.{row-sends}
use Rattle.joint.proofs.Engine.Reads.{get_or-within}
use Rattle.joint.proofs.Engine.Resuming.{resuming_starts, resuming-row, resuming_passed, resuming_ends}
use Rattle.joint.proofs.restarts.resume_all.Goals as goal
use Rattle.joint.proofs.restarts.resume_all.Goals.{then-opened, else-opened}

pub loop-i-init : goal.loop-i-init
loop-i-init c = resuming_starts _ _ _ _ _ (search length-shown)

-- transaction i is read, and whether it is opened
read : (l : List Transaction) (i : ℕ) (d : Transaction) → i < length l → transaction_in (get_or l i d) ≡ transactions_in l i
read l i d h = ap transaction_in (get_or-within l i d no_transaction h)

is_opened : (l : List Transaction) (i : ℕ) (d : Transaction) (o b : Bool) → i < length l → o ≡ not (empty (transaction_in (get_or l i d)).cohort.members) → o ≡ b
    → not (empty (transactions_in l i).cohort.members) ≡ b
is_opened l i d o b h w e = ap (λ (x : plain.Transaction). not (empty x.cohort.members)) (sym (read l i d h)) ∙ sym w ∙ e

pub overflow_add-sends : goal.overflow_add-sends
overflow_add-sends c =
    let below : c.loop-i.i < 8 = omega arith in
    record { fits = omega (arith, c.sends-sends.ensures.1, c.loop-i.invariant.few, below) }

pub loop-i-preserved : goal.loop-i-preserved
loop-i-preserved c =
    let l = c.loop-i in
    let below : l.i < 8 = omega arith in
    let within : l.i < length l.transaction-items = omega (arith, below, l.invariant.size) in
    let a = c.args in
    elim c.if-opened.branch [
      | then-opened w ↦
          let hs = effects_in l.i w.cut-happened.result in
          rw (w.left-is, w.sends-is, w.transaction-items-is)
          (resuming-row a.site.number a.cut a.kinds _ a.transactions _ l.left l.sends l.i l.invariant below (is_opened l.transaction-items l.i _ c.opened.result _ within c.opened.ensures w.if-opened.true)
          w.restart-row.result hs w.settle.result w.saturating_sub-left.result w.sends-sends.result
          (λ x e. w.restart-row.ensures x (read l.transaction-items l.i _ within ∙ e))
          w.cut-happened.ensures
          (w.settle.ensures ∙ ap (then_transaction a.site.number w.restart-row.result.then) (w.after-after.ensures l.i ∙ ap (transaction_after a.site.number hs) (read l.transaction-items l.i _ within)))
          (w.saturating_sub-left.ensures ∙ ap (λ (k : ℕ). l.left - k) (w.count.ensures l.i))
          (w.sends-sends.ensures.0 l.i ∙ sym (row-sends l.i w.cut-happened.result))
          w.sends-sends.ensures.1)
      | else-opened w ↦
          rw (w.left-is, w.sends-is, w.transaction-items-is, set-get_or l.transaction-items l.i _)
          (resuming_passed _ _ _ _ _ _ l.left l.sends l.i l.invariant below (is_opened l.transaction-items l.i _ c.opened.result _ within c.opened.ensures w.if-opened.false))
    ]

pub returns : goal.returns
unfolding resumed_in
returns c =
    let w = c.loop-i in
    resuming_ends _ _ _ _ _ w.transaction-items w.left w.sends w.i w.invariant c.loop-i-test.false
