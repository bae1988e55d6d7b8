use Rattle.std.proofs.Common.{sym}
use Rattle.np_tables.proofs.Mapped.{mapped_there}
use Rattle.site_agents.specs.Standings.{agent_of}
use Rattle.site_agents.proofs.Reading.{mapped_none}
use Rattle.site_agents.proofs.agents.Agents.get.Goals as goal

pub returns-in-Some : goal.returns-in-Some
returns-in-Some c = rw (← c.self.view_is) (sym (mapped_there agent_of c.self.inside.seats.items c.args.name c.in-Some.seat.now (sym c.in-Some.ensures)))

pub returns-in-None : goal.returns-in-None
returns-in-None c = rw (← c.self.view_is) (sym (mapped_none agent_of c.self.inside.seats.items c.args.name (sym c.in-None.ensures)))
