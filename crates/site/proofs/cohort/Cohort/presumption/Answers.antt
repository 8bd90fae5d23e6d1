use mathlib.Core.Path.{sym}
use Rattle.site.specs.Cohort.{presumption_of}
use Rattle.site.proofs.cohort.Cohort.presumption.Goals as goal

pub returns-then-member : goal.returns-then-member
unfolding presumption_of
returns-then-member c = rw (sym c.member.ensures, c.if-member.true)
