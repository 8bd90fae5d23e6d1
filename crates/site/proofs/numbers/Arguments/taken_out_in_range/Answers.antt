use Rattle.site.specs.Answers.{cohort_in}
use Rattle.site.proofs.Accepted.{out_fits}
use Rattle.site.proofs.numbers.Arguments.taken_out_in_range.Goals as goal

pub returns : goal.returns
returns c =
    let s = c.args.self in
    rw (c.part.ensures, c.both-awaited.ensures) (out_fits (cohort_in s.cohort) s.phase s.waiting s.taken_out)
