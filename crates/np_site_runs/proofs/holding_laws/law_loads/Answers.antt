use Rattle.np_site_runs.proofs.Loads.{agent_is_brought, packet_is_brought}
use Rattle.np_site_runs.proofs.holding_laws.law_loads.Goals as goal

pub returns-clause-agent : goal.returns-clause-agent
returns-clause-agent c = agent_is_brought

pub returns-clause-packet : goal.returns-clause-packet
returns-clause-packet c = packet_is_brought
