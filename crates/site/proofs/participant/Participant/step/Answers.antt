use mathlib.Core.Path.{refl, sym, ◌∙◌}
use native.Mathlib.Omega.{arith}
use Rattle.codec.specs.Lists.{any}
use Rattle.site.specs.Step.{messages}
use Rattle.site.specs.Participant.{participant_step}
use Rattle.site.specs.Numbers.{kinds_received, receives, input_of}
use Rattle.site.specs.Answers.{presumption_in, participant_in}
use Rattle.site.proofs.ByKind.{participant_takes, participant_never}
use Rattle.site.proofs.participant.Participant.step.Goals as goal

pub returns-in-0 : goal.returns-in-0
unfolding receives kinds_received any input_of messages participant_step
returns-in-0 c t =
    let s = c.args.self in
    let n = sym c.is_participant.ensures.listed ∙ c.if-not-is_participant.false in
    participant_takes (presumption_in s.presumption) s.number s.marked c.args.kind (participant_in s.phase) t 0 _ n (omega arith) refl (rw (c.on_prepare.ensures t))

pub returns-in-3 : goal.returns-in-3
unfolding receives kinds_received any input_of messages participant_step
returns-in-3 c t =
    let s = c.args.self in
    let n = sym c.is_participant.ensures.listed ∙ c.if-not-is_participant.false in
    participant_takes (presumption_in s.presumption) s.number s.marked c.args.kind (participant_in s.phase) t 3 _ n (omega arith) refl (rw (c.on_tell.ensures t))

pub returns-in-4 : goal.returns-in-4
unfolding receives kinds_received any input_of messages participant_step
returns-in-4 c t =
    let s = c.args.self in
    let n = sym c.is_participant.ensures.listed ∙ c.if-not-is_participant.false in
    participant_takes (presumption_in s.presumption) s.number s.marked c.args.kind (participant_in s.phase) t 4 _ n (omega arith) refl (rw (c.on_tell-in-4.ensures t))

pub returns-in-17 : goal.returns-in-17
unfolding receives kinds_received any input_of messages participant_step
returns-in-17 c t =
    let s = c.args.self in
    let n = sym c.is_participant.ensures.listed ∙ c.if-not-is_participant.false in
    participant_takes (presumption_in s.presumption) s.number s.marked c.args.kind (participant_in s.phase) t 17 _ n (omega arith) refl (rw (c.on_timer.ensures t))

pub returns-in-1-to-2 : goal.returns-in-1-to-2
returns-in-1-to-2 c t =
    let s = c.args.self in
    participant_never (presumption_in s.presumption) s.number s.marked c.args.kind (participant_in s.phase) (λ e. omega arith) (λ e. omega arith) (λ e. omega arith) (λ e. omega arith)
