use Prim.Native.Nat.{◌≤◌}
use mathlib.Core.Path.{refl, ap}
use mathlib.Core.Bool.{not, and-false}
use native.Mathlib.Omega.{arith}
use lib.ListN.{get_or}
use borrow.Author.Tests.{ne_eqb}
use Rattle.codec.specs.Lists.{any, only_if}
use Rattle.joint.specs.Event.{ranges, event_of, cut_at, cut_of}
use Rattle.joint.specs.Answers.{number_of}
use Rattle.joint.specs.Inside.{event_in, step_in, input_event}
use Rattle.joint.proofs.Engine.EventRanges.{parse_by, accepted}
use Rattle.joint.proofs.Engine.Inputs.{message-event, asked_message}
use Rattle.joint.proofs.events.Event.read.Goals as goal

pub returns-then-bytes-ne-EVENT_LENGTH : goal.returns-then-bytes-ne-EVENT_LENGTH
unfolding event_in only_if number_of
returns-then-bytes-ne-EVENT_LENGTH c = (rw (parse_by, ne_eqb _ 6 c.if-bytes-ne-EVENT_LENGTH.true) refl, refl)

pub returns-then-not-in_range : goal.returns-then-not-in_range
unfolding event_in only_if number_of
returns-then-not-in_range c = (rw (parse_by, ← c.in_range.ensures, c.if-not-in_range.true, and-false) refl, refl)

pub returns-in-0 : goal.returns-in-0
unfolding ranges event_in step_in event_of any
returns-in-0 c = let a = accepted c.args.bytes.now c.if-bytes-ne-EVENT_LENGTH.false c.in_range.ensures (ap not c.if-not-in_range.false) c.in-0.is in (rw (a.is, a.uncut refl refl) refl, tt)

pub returns-in-1 : goal.returns-in-1
unfolding ranges event_in step_in event_of cut_of input_event
returns-in-1 c = let a = accepted c.args.bytes.now c.if-bytes-ne-EVENT_LENGTH.false c.in_range.ensures (ap not c.if-not-in_range.false) c.in-1.is in (rw (a.is, c.cut_of.ensures) refl, tt)

pub returns-in-2 : goal.returns-in-2
unfolding ranges event_in step_in event_of cut_of
returns-in-2 c =
    let a = accepted c.args.bytes.now c.if-bytes-ne-EVENT_LENGTH.false c.in_range.ensures (ap not c.if-not-in_range.false) c.in-2.is in
    (rw (a.is, message-event _ _ _ a.last_z, c.cut_of-in-2.ensures) refl, tt)

pub returns-in-3 : goal.returns-in-3
unfolding ranges event_in step_in event_of cut_of input_event
returns-in-3 c = let a = accepted c.args.bytes.now c.if-bytes-ne-EVENT_LENGTH.false c.in_range.ensures (ap not c.if-not-in_range.false) c.in-3.is in (rw (a.is, c.cut_of-in-3.ensures) refl, tt)

pub returns-in-4 : goal.returns-in-4
unfolding ranges event_in step_in event_of any
returns-in-4 c = let a = accepted c.args.bytes.now c.if-bytes-ne-EVENT_LENGTH.false c.in_range.ensures (ap not c.if-not-in_range.false) c.in-4.is in (rw (a.is, a.uncut refl refl) refl, tt)

pub returns-in-5 : goal.returns-in-5
unfolding ranges event_in step_in event_of any
returns-in-5 c = let a = accepted c.args.bytes.now c.if-bytes-ne-EVENT_LENGTH.false c.in_range.ensures (ap not c.if-not-in_range.false) c.in-5.is in (rw (a.is, a.uncut refl refl) refl, tt)

pub returns-in-6 : goal.returns-in-6
unfolding ranges event_in step_in event_of cut_of cut_at
returns-in-6 c = let a = accepted c.args.bytes.now c.if-bytes-ne-EVENT_LENGTH.false c.in_range.ensures (ap not c.if-not-in_range.false) c.in-6.is in (rw a.is refl, tt)

pub returns-in-7 : goal.returns-in-7
unfolding ranges event_in event_of cut_of
returns-in-7 c = let a = accepted c.args.bytes.now c.if-bytes-ne-EVENT_LENGTH.false c.in_range.ensures (ap not c.if-not-in_range.false) c.in-7.is in (rw (a.is, c.cut_of-in-7.ensures) refl, tt)

pub returns-in_default : goal.returns-in_default
unfolding ranges event_in step_in event_of any
returns-in_default c =
    let code = get_or c.args.bytes.now 0 0 in
    let l : 8 ≤ code = omega arith in
    let u : code ≤ 8 = (accepted c.args.bytes.now c.if-bytes-ne-EVENT_LENGTH.false c.in_range.ensures (ap not c.if-not-in_range.false) refl).known in
    let a = accepted c.args.bytes.now {code = 8} c.if-bytes-ne-EVENT_LENGTH.false c.in_range.ensures (ap not c.if-not-in_range.false) (omega (arith, l, u)) in
    (rw (a.is, a.uncut refl refl) refl, tt)

pub invariant_of-result-in-2 : goal.invariant_of-result-in-2
unfolding ranges
invariant_of-result-in-2 c =
    let a = accepted c.args.bytes.now c.if-bytes-ne-EVENT_LENGTH.false c.in_range.ensures (ap not c.if-not-in_range.false) c.in-2.is in
    record { asked = asked_message _ _ _ a.last_z a.first_y c.receiver.ensures }
