use Rattle.np_site_runs.proofs.Resting.{idle_by_agents, no_event_here}
use Rattle.np_site_runs.proofs.holding_laws.law_resting.Goals as goal

pub returns-clause-none : goal.returns-clause-none
returns-clause-none c = no_event_here

pub returns-clause-idle : goal.returns-clause-idle
returns-clause-idle c = idle_by_agents
