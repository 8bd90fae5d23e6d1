use native.Mathlib.Omega.{arith}
use Rattle.joint.specs.Bill.{bill_number}
use Rattle.joint.specs.Answers.{bill_in, refusal_number}
use Rattle.joint.proofs.bill.Bill.number.Goals as goal

pub returns-in-Err : goal.returns-in-Err
unfolding bill_number bill_in refusal_number
returns-in-Err c = rw (c.in-Err.is, c.from.ensures, c.number.ensures) (omega arith)
