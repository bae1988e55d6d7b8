use Rattle.site_agents.proofs.deeds.Calls.{goes_on_at, makes_at, passes_at, tells_at}
use Rattle.site_agents.proofs.deeds.laws.law_agent_calls.Goals as goal

pub returns-clause-on : goal.returns-clause-on
returns-clause-on c = goes_on_at

pub returns-clause-passes : goal.returns-clause-passes
returns-clause-passes c = passes_at

pub returns-clause-tells : goal.returns-clause-tells
returns-clause-tells c = tells_at

pub returns-clause-makes : goal.returns-clause-makes
returns-clause-makes c = makes_at
