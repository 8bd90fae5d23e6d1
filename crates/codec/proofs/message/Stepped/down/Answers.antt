use Rattle.codec.proofs.Numbered.{step-taken, step_left}
use Rattle.codec.proofs.message.Stepped.down.Goals as goal
use Rattle.codec.proofs.message.Stepped.down.Goals.{then-step-stepped, else-step-stepped}

pub loop-tried-preserved : goal.loop-tried-preserved
loop-tried-preserved c =
    let again = c.loop-tried-test.true in
    elim c.if-step-stepped.branch [
      | then-step-stepped w ↦ rw w.stepped-is (step-taken c.loop-tried.invariant w.if-step-stepped.true again)
      | else-step-stepped w ↦ rw w.stepped-is (step_left c.loop-tried.invariant w.if-step-stepped.false again)
    ]
