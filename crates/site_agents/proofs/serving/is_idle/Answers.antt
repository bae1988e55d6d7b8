use Rattle.std.proofs.Common.{refl, sym}
use Rattle.site_agents.proofs.Reading.{idle_at, idle_absent}
use Rattle.site_agents.proofs.serving.is_idle.Goals as goal

pub returns-in-Some : goal.returns-in-Some
returns-in-Some c = idle_at c.args.code.now.processes c.args.seats.now.items c.args.name c.in-Some.seat.now c.idle.result c.in-Some.ensures c.idle.ensures

pub returns-in-None : goal.returns-in-None
returns-in-None c = ((λ t. idle_absent c.args.code.now.processes c.args.seats.now.items c.args.name (sym c.in-None.ensures)), (λ h. refl))
