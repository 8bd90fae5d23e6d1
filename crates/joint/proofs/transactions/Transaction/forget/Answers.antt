use mathlib.Core.Path.{◌≡◌, sym, ap, ◌∙◌}
use lib.ListN.{length}
use native.Mathlib.Omega.{arith}
use Rattle.site.specs.declared.phases.ParticipantPhase.TheVariants.{Unknown}
use Rattle.joint.specs.State.{unknown_part, forgotten, with_coordinator}
use Rattle.joint.specs.Answers.{transaction_in}
use Rattle.joint.proofs.Engine.Arrays.{length-shown}
use Rattle.joint.proofs.Engine.Transactions.{phase-stored, forgotten-participant}
use Rattle.joint.proofs.transactions.Transaction.forget.Goals as goal

pub returns-then-site-eq0 : goal.returns-then-site-eq0
unfolding forgotten transaction_in with_coordinator
returns-then-site-eq0 c =
    let x = c.args.self.now in
    let n : length x.participants ≡ 9 = search length-shown in
    rw (c.index.ensures, c.if-site-eq0.true) (ap (with_coordinator 0 unknown_part) (phase-stored x 0 (omega (arith, n)) Unknown))

pub returns-else-site-eq0 : goal.returns-else-site-eq0
returns-else-site-eq0 c =
    let x = c.args.self.now in
    let n : length x.participants ≡ 9 = search length-shown in
    let s = c.args.site in
    rw c.index.ensures (phase-stored x s.number (omega (arith, n, s.in_range)) Unknown ∙ sym (forgotten-participant _ s.number c.if-site-eq0.false))
