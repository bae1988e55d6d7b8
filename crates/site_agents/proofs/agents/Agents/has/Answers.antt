use Rattle.std.proofs.Common.{◌∙◌}
use Rattle.site_agents.specs.Standings.{agent_of}
use Rattle.site_agents.proofs.Reading.{is_some-mapped}
use Rattle.site_agents.proofs.agents.Agents.has.Goals as goal

pub returns : goal.returns
returns c = rw (← c.self.view_is) (c.has.ensures ∙ is_some-mapped agent_of c.self.inside.seats.items c.args.name)
