use Rattle.site_agents.proofs.deeds.Calls.{arrives_at, is_lost_at, lands_at}
use Rattle.site_agents.proofs.deeds.laws.law_agents_come.Goals as goal

pub returns-clause-agent : goal.returns-clause-agent
returns-clause-agent c = arrives_at

pub returns-clause-packet : goal.returns-clause-packet
returns-clause-packet c = lands_at

pub returns-clause-lost : goal.returns-clause-lost
returns-clause-lost c = is_lost_at
