-- The site's step, with every number passed on.
use Rattle.site_c.proofs.dpr_site_step.Goals as goal

pub returns : goal.returns
returns c = c.dpr_site_step.ensures
