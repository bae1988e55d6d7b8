use Rattle.std.proofs.Common.{subst}
use Rattle.np_tables.specs.Stored.{Covers}
use Rattle.site_agents.specs.Standings.{Standing, agent_of}
use Rattle.site_agents.proofs.Reading.{covers_mapped}
use Rattle.site_agents.proofs.agents.Agents.len.Goals as goal

pub returns-clause-covers : goal.returns-clause-covers
returns-clause-covers c = subst (λ (s : Standing). Covers s.agents s.keys) c.self.view_is (covers_mapped agent_of c.self.inside.seats.items c.self.inside.seats.keys c.len.ensures.covers)
