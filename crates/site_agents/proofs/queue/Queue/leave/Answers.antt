use Rattle.std.proofs.Common.{arith}
use Rattle.site_agents.proofs.Lines.{keeps_cut_to, met}
use Rattle.site_agents.proofs.queue.Queue.leave.Goals as goal

pub returns-in-Some-clause-keeps : goal.returns-in-Some-clause-keeps
returns-in-Some-clause-keeps c =
    rw (← c.self.view_is) (
    keeps_cut_to c.self.inside.names.items _ c.self.inside.lost c.in-Some.at c.args.name c.in-Some.ensures.is (met c.remove.result _ (c.remove.ensures.variant.1 (omega (arith, c.in-Some.ensures.within))) c.remove.ensures.items)
    )
