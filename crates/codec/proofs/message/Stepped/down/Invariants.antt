use Rattle.codec.proofs.Numbered.{Stepping}
use Rattle.codec.proofs.message.Stepped.down.Given as goal

abbrev pub invariant-loop-tried : goal.invariant-loop-tried
invariant-loop-tried l = Stepping l.number l.step l.stepped.steps l.stepped.rest l._tried
