use Rattle.std.proofs.Common.{sym, ◌∙◌, arith}
use Rattle.joint.specs.Answers.{run_in}
use Rattle.drill_text.proofs.Pushed.{left_room, left_next, left_end}
use Rattle.drill_text.proofs.Texts.{text_next, text_skip, text_end}
use Rattle.drill_text.proofs.text.Text.push_transactions.Goals as goal
use Rattle.drill_text.proofs.text.Text.push_transactions.Goals.{then-members-ne0, else-members-ne0}

pub push_transaction-requires : goal.push_transaction-requires
push_transaction-requires c =
    let next = text_next (run_in c.args.run.now) c.loop-i.i (omega arith) (λ e. c.if-members-ne0.true (c.members.ensures ∙ e)) in
    (omega arith, left_room c.loop-i.invariant next)

pub loop-i-preserved : goal.loop-i-preserved
loop-i-preserved c =
    let r = run_in c.args.run.now in
    elim c.if-members-ne0.branch [
      | then-members-ne0 w ↦
          let next = text_next r c.loop-i.i (omega arith) (λ e. w.if-members-ne0.true (c.members.ensures ∙ e)) in
          rw w.self-is (left_next c.loop-i.invariant next w.push_transaction.ensures)
      | else-members-ne0 w ↦ rw (w.self-is, ← text_skip r c.loop-i.i (omega arith) (sym c.members.ensures ∙ w.if-members-ne0.false)) c.loop-i.invariant
    ]

pub returns : goal.returns
returns c = left_end c.loop-i.invariant (text_end (run_in c.args.run.now) c.loop-i.i (omega arith))
