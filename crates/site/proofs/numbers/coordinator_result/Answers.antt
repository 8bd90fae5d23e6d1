use Rattle.site.specs.Answers.{summary_in}
use Rattle.site.proofs.Summed.{fits}
use Rattle.site.proofs.numbers.coordinator_result.Goals as goal

pub packed-requires-in-Ok-Some : goal.packed-requires-in-Ok-Some
packed-requires-in-Ok-Some c = fits _ (summary_in c.summary.result) (c.summary.ensures 0)
