use Prim.Native.Nat.{◌≤◌}
use mathlib.Core.Path.{◌≡◌, sym}
use mathlib.Core.Bool.{false}
use native.Mathlib.Omega.{arith}
use Rattle.codec.specs.Laws.Listed.{size-most}
use Rattle.joint.specs.Answers.{number_of, bill_in}
use Rattle.joint.proofs.Engine.Bills.{wrong, part-size, bill-refused, within, bill_priced}
use Rattle.joint.proofs.bill.Bill.of.Goals as goal
use Rattle.joint.proofs.bill.Bill.of.Goals.{After-size-c}

pub returns-then-members-part : goal.returns-then-members-part
unfolding bill_in number_of
returns-then-members-part c =
    let a = c.args in
    bill-refused a.members a.presume_commit (rw (sym c.part.ensures) c.if-members-part.true)

-- the masks that are not refused
right : (c : After-size-c) → wrong c.args.members c.args.presume_commit ≡ false
right c = rw (sym c.part.ensures) c.if-members-part.false

few : (c : After-size-c) → (c.size-c.result ≤ c.size-n.result) × (c.size-n.result ≤ 8)
few c =
    let a = c.args in
    rw (c.size-c.ensures, c.size-n.ensures) (
      part-size a.presume_commit a.members (within a.members a.presume_commit (right c)),
      size-most a.members (omega arith),
    )

pub overflow_sub-a : goal.overflow_sub-a
overflow_sub-a c = (few c).0

pub returns : goal.returns
unfolding bill_in
returns c =
    let a = c.args in
    bill_priced a.members a.presume_commit (right c.before.before) _ _ _ _ c.size-n.ensures c.size-c.ensures c.one_if-some_c.ensures.0 c.one_if-some_a.ensures.0
