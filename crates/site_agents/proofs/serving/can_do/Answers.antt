use Rattle.std.proofs.Common.{sym}
use Rattle.site_agents.proofs.Reading.{can_here, can_nowhere}
use Rattle.site_agents.proofs.serving.can_do.Goals as goal

pub returns-in-Some : goal.returns-in-Some
returns-in-Some c = can_here c.args.code.now c.args.seats.now.items c.args.name c.in-Some.seat.now c.args.r c.is_ready.result c.in-Some.ensures c.is_ready.ensures

pub returns-in-None : goal.returns-in-None
returns-in-None c = ((λ t. absurd (let same = t in cc)), (λ can. absurd (can_nowhere c.args.code.now c.args.seats.now.items c.args.name c.args.r (sym c.in-None.ensures) can)))
