use Rattle.std.proofs.Common.{sym}
use Rattle.np_tables.proofs.Mapped.{mapped_there}
use Rattle.site_agents.specs.Standings.{agent_of}
use Rattle.site_agents.proofs.Reading.{mapped_none}
use Rattle.site_agents.proofs.serving.take_seat.Goals as goal

pub returns-in-Some-clause-agent : goal.returns-in-Some-clause-agent
returns-in-Some-clause-agent c = sym (mapped_there agent_of c.args.seats.now.items c.args.name c.in-Some.seat (sym c.in-Some.ensures.value))

pub returns-in-None-clause-agent : goal.returns-in-None-clause-agent
returns-in-None-clause-agent c = sym (mapped_none agent_of c.args.seats.now.items c.args.name (sym c.in-None.ensures.value))
