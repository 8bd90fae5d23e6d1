use Prim.Native.Nat.{ℕ, ◌≤◌}
use mathlib.Core.Path.{◌≡◌, sym, ap, ◌∙◌}
use mathlib.Core.Bool.{not}
use mathlib.Core.List.{List}
use lib.ListN.{length, get_or}
use native.Mathlib.Omega.{arith}
use Rattle.joint.specs.Answers.{no_site}
use Rattle.joint.specs.declared.sites.Site.{Site}
use Rattle.joint.proofs.Engine.Arrays.{length-shown}
use Rattle.joint.proofs.Engine.Reads.{get_or-within}
use Rattle.joint.proofs.Engine.Ups.{reach_starts, one_down, reach_up, reach_unnamed, reach_ends}
use Rattle.joint.proofs.changes.all_up.Goals as goal
use Rattle.joint.proofs.changes.all_up.Goals.{else-not-site-via-then-not-site+else-names, else-not-site-via-else-not-site}

read : (l : List Site) (i : ℕ) (d : Site) → length l ≡ 9 → i ≤ 8 → not (get_or l i no_site).up ≡ not (get_or l i d).up
read l i d n h = ap (λ (x : Site). not x.up) (get_or-within l i no_site d (omega (arith, n, h)))

pub loop-i-init : goal.loop-i-init
loop-i-init c = reach_starts _ _

pub returns-then-names : goal.returns-then-names
returns-then-names c =
    let l = c.loop-i in
    let n : length c.args.sites.now ≡ 9 = search length-shown in
    one_down _ _ l.i l.invariant (omega arith) (sym c.if-names.ensures) (read _ l.i _ n (omega arith) ∙ ap not c.if-not-site.true)

pub loop-i-preserved : goal.loop-i-preserved
loop-i-preserved c =
    let l = c.loop-i in
    let n : length c.args.sites.now ≡ 9 = search length-shown in
    let low : l.i ≤ 8 = omega arith in
    elim c.else-not-site.branch [
      | else-not-site-via-else-not-site w ↦ reach_up _ _ l.i l.invariant low (read _ l.i _ n low ∙ ap not w.if-not-site.false)
      | else-not-site-via-then-not-site+else-names w ↦ reach_unnamed _ _ l.i l.invariant low (sym w.if-names.ensures)
    ]

pub returns : goal.returns
returns c = reach_ends _ _ _ c.loop-i.invariant (omega arith)
