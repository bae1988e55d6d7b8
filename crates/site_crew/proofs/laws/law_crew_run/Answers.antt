use Rattle.site_crew.proofs.CrewRuns.{crew_run}
use Rattle.site_crew.proofs.laws.law_crew_run.Goals as goal

pub returns : goal.returns
returns g c = λ code limit seats stand is. crew_run g.P.Port code limit seats stand is
