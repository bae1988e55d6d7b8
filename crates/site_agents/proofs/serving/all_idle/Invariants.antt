use Rattle.np_tables.proofs.Walks.{Before}
use Rattle.site_agents.specs.Standings.{agents_of, IdleAt}
use Rattle.site_agents.proofs.serving.all_idle.Given as goal

abbrev pub invariant-loop-at : goal.invariant-loop-at
invariant-loop-at l = Before (IdleAt l.code.processes (agents_of l.seats.items)) l.seats.keys l.at
