use mathlib.Core.Bool.{false}
use mathlib.Core.Path.{◌≡◌, sym}
use lib.Dec.{eqb}
use borrow.Author.Tests.{lt-ltb, ne_eqb}
use Rattle.site.specs.Presumption.{presumption_number}
use Rattle.site.specs.Cohort.{presumption_of}
use Rattle.site.specs.Answers.{call_in}
use Rattle.site.specs.Numbers.{packed, refusal, no_values}
use Rattle.site.proofs.Accepted.{coordinator-refused}
use Rattle.site.proofs.numbers.Arguments.coordinator_step.Goals as goal

pub returns-then-self-number : goal.returns-then-self-number
unfolding packed refusal no_values
returns-then-self-number c =
    let a = call_in c.args.self in
    let e : eqb a.presumption (presumption_number (presumption_of a.cohort a.participant)) ≡ false =
    rw (sym c.presumption-stated.ensures, sym c.number.ensures) (ne_eqb _ _ c.if-self-number.true) in
    rw (coordinator-refused a (rw (lt-ltb a.kind 16 c.if-self-lt-BEGIN.true, e)))
