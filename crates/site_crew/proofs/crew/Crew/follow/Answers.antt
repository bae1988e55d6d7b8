use Rattle.site_crew.proofs.Crewing.{has_run}
use Rattle.site_crew.proofs.crew.Crew.follow.Goals as goal

pub returns-clause-run : goal.returns-clause-run
returns-clause-run g c = has_run c.self.invariant
