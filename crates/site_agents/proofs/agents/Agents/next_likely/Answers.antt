use Rattle.site_agents.proofs.Reading.{still_by}
use Rattle.site_agents.proofs.agents.Agents.next_likely.Goals as goal

pub returns-clause-still : goal.returns-clause-still
returns-clause-still c = still_by c.args.code.now c.args.self.now c.self.inside.seats c.next_likely.new.seats c.self.view_is c.next_likely.ensures.goes.quiet
