use mathlib.Core.Path.{◌≡◌, refl, sym, ap, ◌∙◌}
use mathlib.Core.Bool.{false}
use Rattle.site.specs.Answers.{participant_in}
use Rattle.site.specs.declared.phases.ParticipantPhase.{ParticipantPhase}
use Rattle.site.specs.declared.phases.ParticipantPhase.TheVariants as phases
use Rattle.std.proofs.lemmas.Result.{err_from_is_err_and}
use Rattle.joint.specs.State as plain
use Rattle.joint.specs.Plan.{is_working}
use Rattle.joint.specs.Answers.{number_of}
use Rattle.joint.specs.Inside.{change_in}
use Rattle.joint.proofs.Engine.Changes.{up_here, unready_here, mark-refused, mark_unallowed, mark_marks}
use Rattle.joint.proofs.changes.mark.Goals as goal

not_working : (p : ParticipantPhase) → (p ≡ phases.Working → ⊥) → is_working (participant_in p) ≡ false
unfolding is_working
not_working phases.Working k = absurd (k refl)
not_working phases.Prepared k = refl
not_working phases.Committed k = refl
not_working phases.Aborted k = refl
not_working phases.Unknown k = refl

pub returns-in_err-ready : goal.returns-in_err-ready
unfolding change_in
returns-in_err-ready c =
    λ w here own.
    let a = c.args in
    let e = a.e in
    let p = err_from_is_err_and c.from_residual.result c.from_residual.ensures.1 in
    rw (p.1, p.2)
    (mark-refused w e.transaction.number e.participant.number c.in_err-ready.field-0.0 (unready_here w e.transaction.number e.participant.number e.participant.number own (up_here a.site w e.participant.number here) c.in_err-ready.ensures))

pub returns-in-Working : goal.returns-in-Working
unfolding change_in is_working
returns-in-Working c =
    λ w here own.
    let a = c.args in
    let e = a.e in
    let phase : (w.transaction e.transaction.number).participant e.participant.number ≡ participant_in c.participant_phase.result =
    ap (λ (x : plain.Transaction). x.participant e.participant.number) (sym own) ∙ sym c.participant_phase.ensures in
    mark_marks w e.transaction.number e.participant.number (unready_here w e.transaction.number e.participant.number e.participant.number own (up_here a.site w e.participant.number here) c.in_ok-ready.ensures)
    (ap is_working phase ∙ rw c.in-Working.is refl)

pub returns-in_default : goal.returns-in_default
unfolding change_in number_of
returns-in_default c =
    λ w here own.
    let a = c.args in
    let e = a.e in
    let phase : (w.transaction e.transaction.number).participant e.participant.number ≡ participant_in c.participant_phase.result =
    ap (λ (x : plain.Transaction). x.participant e.participant.number) (sym own) ∙ sym c.participant_phase.ensures in
    mark_unallowed w e.transaction.number e.participant.number (unready_here w e.transaction.number e.participant.number e.participant.number own (up_here a.site w e.participant.number here) c.in_ok-ready.ensures)
    (ap is_working phase ∙ not_working c.participant_phase.result c.in_default.not-Working)
