use mathlib.Core.Path.{◌≡◌, sym, ◌∙◌}
use mathlib.Core.Bool.{true, false}
use mathlib.Core.Logic.{⊎_elim}
use lib.ListN.{length, length-append}
use lib.Seq.{take_all}
use native.Mathlib.Omega.{arith}
use Rattle.codec.specs.Laws.Tests.{lt_or_le}
use Rattle.site.specs.Coordinator.{in_turn}
use Rattle.site.specs.Laws.Order.{in_turn_adds, both-same}
use Rattle.site.proofs.Turned.{walk_starts, goes_on, walk_on, walk_ends}
use Rattle.site.proofs.effects.first_in_turn.Goals as goal
use Rattle.site.proofs.effects.first_in_turn.Goals.{then-member, else-member}

pub returns-then-size-most : goal.returns-then-size-most
returns-then-size-most c =
    let a = c.args in (
      sym (take_all a.most (in_turn a.start a.mask) (omega (arith, c.if-size-most.true, c.size.ensures, in_turn_adds length length-append a.start a.mask))),
      both-same a.mask (omega arith),
    )

pub loop-i-init : goal.loop-i-init
loop-i-init c =
    walk_starts c.args.start c.args.mask (omega (arith, c.requires)) c.args.most (omega (arith, c.if-size-most.false, c.size.ensures))

pub loop-i-preserved : goal.loop-i-preserved
loop-i-preserved c =
    let on = walk_on c.args.start c.args.mask (omega (arith, c.requires)) c.args.most c.loop-i.taken c.loop-i.left c.loop-i.i c.loop-i.invariant (omega (arith, c.if-left-eq0.false)) in
    elim c.if-member.branch [
      | then-member o ↦ rw (o.taken-is, o.left-is, o.either-taken.ensures, o.only.ensures) (on true (sym c.member.ensures ∙ o.if-member.true))
      | else-member o ↦ rw (o.taken-is, o.left-is) (on false (sym c.member.ensures ∙ o.if-member.false))
    ]

pub returns-then-left-eq0 : goal.returns-then-left-eq0
returns-then-left-eq0 c =
    walk_ends c.args.start c.args.mask (omega (arith, c.requires)) c.args.most c.loop-i.taken c.loop-i.left c.loop-i.i c.loop-i.invariant c.if-left-eq0.true

-- where the round is over, nothing is left to take
pub returns : goal.returns
returns c =
    let a = c.args in
    let l = c.loop-i in
    let go = goes_on a.start a.mask (omega (arith, c.requires)) a.most l.taken l.left l.i l.invariant in
    let none : l.left ≡ 0 = ⊎_elim (λ k. omega (arith, k)) (λ k. absurd (omega (arith, go k))) (lt_or_le l.left 1) in
    walk_ends a.start a.mask (omega (arith, c.requires)) a.most l.taken l.left l.i l.invariant none
