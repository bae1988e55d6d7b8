-- What seats end as, where the agent of one was lent to be changed in place.
use Rattle.std.specs.Borrow.{Lends, Fml, MutBor}
use Rattle.np_syntax.specs.declared.value.Name.{Name}
use Rattle.np_tables.specs.Stored.{Stored}
use Rattle.agent_pool.specs.Pools.{Pool}
use Rattle.agent_pool.specs.contracts.agent.Agent as agent
use Rattle.site_agents.specs.declared.seat.Seat.{Seat}
use Rattle.site_agents.specs.contracts.seat.Seat as seat
use Rattle.np_tables.specs.contracts.table.Table as table
use Rattle.site_agents.specs.Rounds.{with_changed}

-- a seat with this agent in it
abbrev pub filled : Pool → Seat → Seat
filled p s = record s { agent = p }

-- the name has what was last written through what was lent
abbrev pub lends_seated : MutBor (Stored Seat) → Name → MutBor Pool → Fml
lends_seated s q r = Lends (table.the_row seat.the_row) agent.the_row s r (λ p. with_changed s.now q (filled p))
