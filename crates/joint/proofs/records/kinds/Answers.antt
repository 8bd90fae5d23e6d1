use Prim.Native.Nat.{◌<◌, ◌+◌}
use mathlib.Core.Path.{refl}
use native.Mathlib.Omega.{arith}
use lib.ListN.{length, length-set}
use Rattle.joint.proofs.Engine.Walks.{collect_starts, collect_more, collect_none}
use Rattle.joint.proofs.records.kinds.Goals as goal
use Rattle.joint.proofs.records.kinds.Goals.{then-x-le-LAST_TRANSACTION+then-x-le-LAST_KIND, else-x-le-LAST_TRANSACTION, else-x-le-LAST_TRANSACTION-via-then-x-le-LAST_TRANSACTION+else-x-le-LAST_KIND, else-x-le-LAST_TRANSACTION-via-else-x-le-LAST_TRANSACTION}

pub loop-x-init : goal.loop-x-init
loop-x-init c = (refl, collect_starts c.args.records.now)

pub loop-x-preserved : goal.loop-x-preserved
loop-x-preserved c =
    let rs = c.args.records.now in
    let l = c.loop-x in
    let i = l.x-index in
    let lt : i < length rs = omega (arith, c.loop-x-test.true) in
    elim c.if-x-le-LAST_TRANSACTION.branch [
      | then-x-le-LAST_TRANSACTION+then-x-le-LAST_KIND w ↦
          rw w.kinds-is
          (simp length-set l.invariant.0, collect_more rs i (i + 1) (omega arith) lt l.kinds w.with_bit.result (omega (arith, l.invariant.0, w.if-x-le-LAST_TRANSACTION.true)) w.with_bit.ensures l.invariant.1)
      | else-x-le-LAST_TRANSACTION w ↦
          rw w.kinds-is (
            l.invariant.0,
            collect_none rs i (i + 1) (omega arith) lt l.kinds
                (elim w.else-x-le-LAST_TRANSACTION.branch [
                  | else-x-le-LAST_TRANSACTION-via-then-x-le-LAST_TRANSACTION+else-x-le-LAST_KIND v ↦ λ p q. omega (arith, q, v.if-x-le-LAST_KIND.false)
                  | else-x-le-LAST_TRANSACTION-via-else-x-le-LAST_TRANSACTION v ↦ λ p q. omega (arith, p, v.if-x-le-LAST_TRANSACTION.false)
                ])
                l.invariant.1,
          )
    ]
