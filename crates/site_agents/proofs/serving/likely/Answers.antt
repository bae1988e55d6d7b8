use Rattle.site_agents.proofs.Seatings.{can_at}
use Rattle.site_agents.proofs.serving.likely.Goals as goal

pub returns-in-Some-clause-some : goal.returns-in-Some-clause-some
returns-in-Some-clause-some c = can_at c.args.code.now c.args.seats.now.items c.args.name c.in-Some.seat.now c.likely.result c.in-Some.ensures c.likely.ensures.some
