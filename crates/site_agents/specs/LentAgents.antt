-- What the agents at a site end as, where one of them was lent to be changed in place.
use Rattle.std.specs.Prelude.{false, Option}
use Rattle.std.specs.FinMap as map
use Rattle.std.specs.Borrow.{LendsIf, Fml, MutBor}
use Rattle.np_syntax.specs.declared.value.Name.{Name}
use Rattle.agent_pool.specs.Pools.{Pool}
use Rattle.agent_pool.specs.contracts.agent.Agent as agent
use Rattle.site_agents.specs.Standings.{Standing}
use Rattle.site_agents.specs.contracts.agents.Agents.{the_row}

-- those with this agent under a name, which may have something to do
abbrev pub with_agent : Standing → Name → Pool → Standing
with_agent s q p = record s { agents = map.insert s.agents q p; quiet = map.insert s.quiet q false }

-- the name has what was last written through what was lent, and where none was nothing changes
abbrev pub lends_agent : MutBor Standing → Name → Option (MutBor Pool) → Fml
lends_agent s q r = LendsIf the_row agent.the_row s r (with_agent s.now q) s.now
