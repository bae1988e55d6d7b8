use Rattle.np_site_runs.proofs.Enabled.{enabled_is_of_agent}
use Rattle.np_site_runs.proofs.holding_laws.law_enabled.Goals as goal

pub returns : goal.returns
returns c = enabled_is_of_agent
