use mathlib.Core.Path.{sym}
use Rattle.site.specs.Step.{answer_number}
use Rattle.site.specs.Numbers.{no_values, participant_values, participant_result, packed}
use Rattle.site_cases.proofs.results.participant_restart.Goals as goal

pub returns-in-Err : goal.returns-in-Err
unfolding participant_result participant_values answer_number no_values packed
returns-in-Err c = rw (sym (c.restart.ensures 0), c.in-Err.is)

pub returns-in-Ok : goal.returns-in-Ok
returns-in-Ok c = rw (c.participant_result.ensures 0, sym (c.restart.ensures 0), c.in-Ok.is)
