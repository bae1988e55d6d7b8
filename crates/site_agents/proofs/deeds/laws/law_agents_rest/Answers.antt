use Rattle.site_agents.proofs.deeds.Resting.{enabled_at, idle_at, no_event_at}
use Rattle.site_agents.proofs.deeds.laws.law_agents_rest.Goals as goal

pub returns-clause-none : goal.returns-clause-none
returns-clause-none c = no_event_at

pub returns-clause-idle : goal.returns-clause-idle
returns-clause-idle c = idle_at

pub returns-clause-ready : goal.returns-clause-ready
returns-clause-ready c = enabled_at
