use mathlib.Core.Path.{◌≡◌}
use lib.ListN.{length, get_or}
use native.Mathlib.Omega.{arith}
use borrow.Author.Rules.{rules}
use Rattle.joint.proofs.Engine.Transactions.{sent_all, sent-none, sent-nobody, member-either}
use Rattle.joint.proofs.transactions.Transaction.send.Goals as goal
use Rattle.joint.proofs.transactions.Transaction.send.Goals.{else-to-ne0-via-then-to-ne0+else-kind-le-LAST_KIND, else-to-ne0-via-else-to-ne0}

pub returns-then-kind-le-LAST_KIND : goal.returns-then-kind-le-LAST_KIND
returns-then-kind-le-LAST_KIND c =
    λ s t owing.
    let a = c.args in
    let n : length a.self.sent ≡ 8 = search rules in
    sent_all a.self t a.kind owing a.to c.either.result c.if-kind-le-LAST_KIND.true (omega (arith, n)) (omega arith)
    (λ q. rw c.either.ensures (member-either q (get_or a.self.sent a.kind 0) a.to (omega arith) (omega arith))) s

pub returns-else-to-ne0 : goal.returns-else-to-ne0
returns-else-to-ne0 c =
    λ s t owing.
    let a = c.args in
    elim c.else-to-ne0.branch [
      | else-to-ne0-via-then-to-ne0+else-kind-le-LAST_KIND w ↦ sent-none t a.kind owing a.to w.if-kind-le-LAST_KIND.false s _
      | else-to-ne0-via-else-to-ne0 w ↦ sent-nobody t a.kind owing a.to w.if-to-ne0.false s _
    ]
