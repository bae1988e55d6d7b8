use Rattle.site_agents.proofs.deeds.Calls.{leaves_at, sends_at}
use Rattle.site_agents.proofs.deeds.laws.law_agents_leave.Goals as goal

pub returns-clause-agent : goal.returns-clause-agent
returns-clause-agent c = leaves_at

pub returns-clause-packet : goal.returns-clause-packet
returns-clause-packet c = sends_at
