use Rattle.site_cases.proofs.results.participant_step.Goals as goal

pub returns : goal.returns
returns c = rw (c.participant_result.ensures 0, c.step.ensures 0)
