use mathlib.Core.Path.{◌≡◌, refl, sym, ap, ◌∙◌}
use mathlib.Core.Bool.{Bool, true, false, not, ◌&&◌, ◌||◌}
use Prim.Native.Nat.{ℕ}
use mathlib.Core.List.{List}
use lib.Dec.{eqb}
use Rattle.std.proofs.lemmas.Result.{err_from_is_err_and}
use Rattle.codec.specs.declared.record.Record.{Record}
use Rattle.joint.specs.declared.sites.Site.{Site as ProgramSite}
use Rattle.joint.specs.State as plain
use Rattle.joint.specs.State.{Site}
use Rattle.joint.specs.Plan.{may_discard}
use Rattle.joint.specs.Answers.{site_from, number_of}
use Rattle.joint.specs.Inside.{change_in}
use Rattle.joint.proofs.Engine.Changes.{unready_here, may_discard_lem, still_remembers, discard-refused, discard_unallowed, discard_drops}
use Rattle.joint.proofs.changes.discard.Goals as goal

-- the site is up in the run as in the program
up_of : (x : ProgramSite) (rs : List Record) (w : plain.Run) (s : ℕ) → site_from x rs ≡ w.site s → x.up ≡ (w.site s).up
unfolding site_from
up_of x rs w s here = ap (λ (a : Site). a.up) here

forgets : (z b v : Bool) → b ≡ v → not (not z && not b) ≡ (z || v)
forgets true b v e = refl
forgets false true v e = e
forgets false false v e = e

pub returns-in_err-ready : goal.returns-in_err-ready
unfolding change_in
returns-in_err-ready c =
    λ w here own.
    let a = c.args in
    let e = a.e in
    let p = err_from_is_err_and c.from_residual.result c.from_residual.ensures.1 in
    rw (p.1, p.2)
    (discard-refused w e.transaction.number e.site.number c.in_err-ready.field-0.0 (unready_here w e.transaction.number e.site.number e.site.number own (up_of a.site a.records.of w e.site.number here) c.in_err-ready.ensures))

pub returns-then-not-may_discard : goal.returns-then-not-may_discard
unfolding change_in number_of
returns-then-not-may_discard c =
    λ w here own.
    let a = c.args in
    let e = a.e in
    let allowed : c.may_discard.result ≡ may_discard w e.transaction.number e.site.number =
    rw c.stable.ensures at c.may_discard.ensures ∙ may_discard_lem a.site a.site a.records.of a.records.of w e.transaction.number e.site.number here in
    discard_unallowed w e.transaction.number e.site.number (unready_here w e.transaction.number e.site.number e.site.number own (up_of a.site a.records.of w e.site.number here) c.in_ok-ready.ensures)
    (sym allowed ∙ c.if-not-may_discard.true)

pub returns : goal.returns
unfolding change_in
returns c =
    λ w here own.
    let a = c.args in
    let e = a.e in
    let allowed : c.may_discard.result ≡ may_discard w e.transaction.number e.site.number =
    rw c.stable.ensures at c.may_discard.ensures ∙ may_discard_lem a.site a.site a.records.of a.records.of w e.transaction.number e.site.number here in
    discard_drops w e.transaction.number e.site.number (unready_here w e.transaction.number e.site.number e.site.number own (up_of a.site a.records.of w e.site.number here) c.in_ok-ready.ensures)
    (sym allowed ∙ c.if-not-may_discard.false) _
    (forgets (eqb e.site.number 0) _ _ (rw c.all.ensures at c.remember.ensures
    ∙ still_remembers a.site c.trim-log.result.site a.records.of c.trim-log.result.records.of w e.transaction.number e.site.number here c.trim-log.ensures))
