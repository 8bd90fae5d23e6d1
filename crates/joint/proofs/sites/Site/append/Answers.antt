use mathlib.Core.Path.{refl, ◌∙◌}
use native.Mathlib.Omega.{arith}
use borrow.Author.Tests.{eq-eqb, ne_eqb, le-leb}
use Rattle.joint.specs.Inside.{count_of}
use Rattle.joint.proofs.Engine.Sites.{kept_stands, put_stands}
use Rattle.joint.proofs.sites.Site.append.Goals as goal
use Rattle.joint.proofs.sites.Site.append.Goals.{then-kind-eq0-via-then-kind-eq0, then-kind-eq0-via-else-kind-eq0+then-count-ge-COORDINATOR_MOST}

pub returns-then-kind-eq0 : goal.returns-then-kind-eq0
returns-then-kind-eq0 c = λ rs x e all.
    let s = c.args.self in
    rw (← e) (λ fits. elim c.then-kind-eq0.branch [
      | then-kind-eq0-via-then-kind-eq0 w ↦ kept_stands s rs x all fits (rw (eq-eqb x.kind 0 (e ∙ w.if-kind-eq0.true)) refl)
      | then-kind-eq0-via-else-kind-eq0+then-count-ge-COORDINATOR_MOST w ↦ kept_stands s rs x all fits (rw (ne_eqb x.kind 0 (rw e w.if-kind-eq0.false), le-leb 24 (count_of s) (omega (arith, w.count.ensures))) refl)
    ])

pub returns : goal.returns
returns c = λ rs x e all. let s = c.args in
    rw (← e) (λ fits. put_stands s.self rs x all fits (rw e c.if-kind-eq0.false) (omega (arith, c.count.ensures, c.if-count-ge-COORDINATOR_MOST.false)))
