use mathlib.Core.Path.{◌≡◌, sym}
use mathlib.Core.Bool.{true, false, and-eq-true_iff}
use native.Mathlib.Omega.{arith}
use Rattle.codec.specs.Sets.{member}
use Rattle.site.specs.Answers.{call_in}
use Rattle.site.specs.Numbers.{packed, refusal, no_values, is_member}
use Rattle.site.proofs.Accepted.{participant-refused, participant-taken}
use Rattle.site.proofs.ByKind.{member_among}
use Rattle.site.proofs.numbers.Arguments.participant_step.Goals as goal

pub returns-then-not-fits : goal.returns-then-not-fits
unfolding packed refusal no_values is_member
returns-then-not-fits c =
    let a = call_in c.args.self in
    let e : is_member a ≡ false = rw (sym c.presumption-stated.ensures, sym c.number.ensures, sym c.member.ensures) c.if-not-fits.true in
    rw (participant-refused a e)

pub returns : goal.returns
unfolding is_member
returns c =
    let a = call_in c.args.self in
    let e : is_member a ≡ true = rw (sym c.presumption-stated.ensures, sym c.number.ensures, sym c.member.ensures) c.if-not-fits.false in
    let n = member_among c.args.self.participant c.args.self.cohort.members (omega arith) (omega arith) ((and-eq-true_iff (member c.args.self.participant c.args.self.cohort.members) _).0 e).0 in
    rw (
      c.participant_result.ensures 0,
      c.step.ensures 0,
      c.from_number.ensures,
      c.presumption-stated.ensures,
      participant-taken a e n,
    )
