use Rattle.np_site_runs.proofs.merged.Agreeing.{event_of_site}
use Rattle.np_site_runs.proofs.merged.laws.law_agrees.Goals as goal

pub returns : goal.returns
returns c = event_of_site
