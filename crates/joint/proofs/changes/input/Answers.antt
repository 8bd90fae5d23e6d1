use mathlib.Core.Path.{◌≡◌, refl, sym, ◌∙◌}
use mathlib.Core.Option.{none}
use native.Mathlib.Omega.{arith}
use Rattle.std.proofs.lemmas.Result.{err_from_is_err_and}
use Rattle.codec.specs.Lists.{first}
use Rattle.joint.specs.State as plain
use Rattle.joint.specs.Refusals.{refusals}
use Rattle.joint.specs.Answers.{transaction_in, number_of}
use Rattle.joint.specs.Inside.{change_in, found_in, cut_in, input_event, Asks, Here}
use Rattle.joint.specs.declared.input.Input.{Input}
use Rattle.joint.proofs.Engine.Inputs.{asks_of}
use Rattle.joint.proofs.Engine.InputEvents.{input_received, takes_its_part}
use Rattle.joint.proofs.Engine.Changes.{up_here, unready_here, input_unready, input_unsent, input_passed, input_carried, input_fits, input_unallowed, input_nothing, nothing_fits}
use Rattle.joint.proofs.changes.input.Goals as goal
use Rattle.joint.proofs.changes.input.Goals.{Else-e-sent}

asks : (e : Input) → Asks (input_event e.kind e.transaction.number e.participant) e.transaction.number e.site.number e.kind e.participant
asks e = asks_of _ _ _ _ e.asked

pub returns-in_err-ready : goal.returns-in_err-ready
unfolding change_in
returns-in_err-ready c =
    λ w here own room.
    let a = c.args in
    let e = a.e in
    let p = err_from_is_err_and c.from_residual.result c.from_residual.ensures.1 in
    rw (p.1, p.2)
    (input_unready w (asks c.args.e) (cut_in e.cut) c.in_err-ready.field-0.0 (unready_here w e.transaction.number e.site.number e.participant own (up_here a.site w e.site.number here) c.in_err-ready.ensures))

pub returns-then-e-sent : goal.returns-then-e-sent
unfolding change_in number_of
returns-then-e-sent c =
    λ w here own room.
    let a = c.args in
    let e = a.e in
    input_unsent w (asks c.args.e) (cut_in e.cut) own (up_here a.site w e.site.number here) c.in_ok-ready.ensures c.sent.ensures c.if-e-sent.true refl

passes : (c : Else-e-sent) (w : plain.Run) → Here c.args.site w c.args.e.site.number → transaction_in c.args.before ≡ w.transaction c.args.e.transaction.number
    → first (refusals w (input_event c.args.e.kind c.args.e.transaction.number c.args.e.participant)) ≡ 0
passes c w here own = input_passed w (asks c.args.e) none own (up_here c.args.site w c.args.e.site.number here) c.in_ok-ready.ensures c.sent.ensures c.if-e-sent.false refl

pub step-requires : goal.step-requires
step-requires c = input_received (asks c.args.e) (transaction_in c.args.before) (takes_its_part (transaction_in c.args.before) c.args.e.participant c.args.site.up c.in_ok-ready.ensures)

pub returns-then-e-ge-BEGIN : goal.returns-then-e-ge-BEGIN
unfolding change_in number_of found_in
returns-then-e-ge-BEGIN c =
    λ w here own room.
    let a = c.args in
    let e = a.e in
    let missing = rw c.in-None.is at (c.step.ensures w e.transaction.number own) in
    input_unallowed w (asks c.args.e) (cut_in e.cut) (passes (goal.at.returns-then-e-ge-BEGIN c).Else-e-sent w here own) missing (omega arith)

pub returns-in-Some : goal.returns-in-Some
unfolding found_in
returns-in-Some c =
    λ w here own room.
    let a = c.args in
    let e = a.e in
    let row = c.in-Some.row in
    let found = rw c.in-Some.is at (c.step.ensures w e.transaction.number own) in
    c.carry.ensures w e.site.number here (input_fits w (asks c.args.e) (cut_in e.cut) (passes (goal.at.returns-in-Some c).Else-e-sent w here own) row found room)
    ∙ sym (input_carried w (asks c.args.e) (cut_in e.cut) (passes (goal.at.returns-in-Some c).Else-e-sent w here own) row found)

pub returns-else-e-ge-BEGIN : goal.returns-else-e-ge-BEGIN
unfolding found_in
returns-else-e-ge-BEGIN c =
    λ w here own room.
    let a = c.args in
    let e = a.e in
    let missing = rw c.in-None.is at (c.step.ensures w e.transaction.number own) in
    c.carry-in-None.ensures w e.site.number here (nothing_fits a.site w e.site.number e.transaction.number here)
    ∙ sym (input_nothing w (asks c.args.e) (cut_in e.cut) (passes (goal.at.returns-else-e-ge-BEGIN c).Else-e-sent w here own) missing (omega arith))
