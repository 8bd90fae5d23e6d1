use Prim.Native.Nat.{◌<◌}
use mathlib.Core.Path.{◌≡◌, sym, ap, ◌∙◌}
use lib.ListN.{length, length-set}
use lib.Seq.{set-get_or}
use native.Mathlib.Omega.{arith}
use Rattle.site.specs.Participant.{working}
use Rattle.site.specs.declared.phases.ParticipantPhase.TheVariants as phases
use Rattle.joint.specs.State.{with_participant}
use Rattle.joint.proofs.Engine.Arrays.{length-shown}
use Rattle.joint.proofs.Engine.Transactions.{phase-stored, opening, none_working, next_working, next_left, all_working}
use Rattle.joint.proofs.transactions.Transaction.open.Goals as goal
use Rattle.joint.proofs.transactions.Transaction.open.Goals.{then-member, else-member}

pub loop-i-init : goal.loop-i-init
loop-i-init c =
    let n : length c.args.self.participants ≡ 9 = search length-shown in
    (n, sym (none_working c.args.cohort.members _))

pub loop-i-preserved : goal.loop-i-preserved
loop-i-preserved c =
    let l = c.loop-i in
    let a = c.args in
    let lt : l.i < length l.phase-items = omega arith in
    let known = c.member.ensures in
    elim c.if-member.branch [
      | then-member w ↦ rw w.phase-items-is (
        simp length-set l.invariant.0,
        phase-stored (opening a.self a.cohort l.phase-items) l.i lt phases.Working
            ∙ ap (with_participant l.i working) l.invariant.1
            ∙ next_working a.cohort.members _ l.i (sym known ∙ w.if-member.true),
      )
      | else-member w ↦ rw (w.phase-items-is, set-get_or l.phase-items l.i _) (l.invariant.0, l.invariant.1 ∙ next_left a.cohort.members _ l.i (sym known ∙ w.if-member.false))
    ]

pub returns : goal.returns
returns c =
    let l = c.loop-i in
    let a = c.args in
    let all : l.i ≡ 9 = omega arith in
    rw all at l.invariant.1 ∙ all_working a.cohort a.self (omega arith)
