use Rattle.site_agents.specs.Standings.{agent_of}
use Rattle.site_agents.proofs.Reading.{is_some-mapped}
use Rattle.site_agents.proofs.agents.Agents.key.Goals as goal

pub returns-clause-there : goal.returns-clause-there
returns-clause-there c = rw (← c.self.view_is, ← is_some-mapped agent_of c.self.inside.seats.items c.key.result) c.key.ensures.there
