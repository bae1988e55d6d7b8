use Rattle.np_site_runs.proofs.merged.Items.{agent_leaves, inner_step, item_comes, packet_leaves}
use Rattle.np_site_runs.proofs.merged.laws.law_steps.Goals as goal

pub returns-clause-inner : goal.returns-clause-inner
returns-clause-inner c = inner_step

pub returns-clause-agent : goal.returns-clause-agent
returns-clause-agent c = agent_leaves

pub returns-clause-packet : goal.returns-clause-packet
returns-clause-packet c = packet_leaves

pub returns-clause-comes : goal.returns-clause-comes
returns-clause-comes c = item_comes
