use Rattle.np_tables.proofs.Mapped.{mapped-empty}
use Rattle.site_agents.specs.Standings.{agent_of, is_quiet}
use Rattle.site_agents.proofs.Comings.{in_turn_none}
use Rattle.site_agents.proofs.agents.Agents.new.Goals as goal

pub invariant_of-result : goal.invariant_of-result
invariant_of-result c = rw c.new.ensures (in_turn_none c.new-2.result c.new-3.result)

pub returns-clause-agents : goal.returns-clause-agents
returns-clause-agents c = rw c.new.ensures (mapped-empty agent_of)

pub returns-clause-quiet : goal.returns-clause-quiet
returns-clause-quiet c = rw c.new.ensures (mapped-empty is_quiet)
