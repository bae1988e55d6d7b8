use Rattle.np_tables.proofs.Walks.{Before}
use Rattle.site_agents.specs.Standings.{agents_of, CanDo}
use Rattle.site_agents.proofs.serving.who_can.Given as goal

abbrev pub invariant-loop-at : goal.invariant-loop-at
invariant-loop-at l = Before (λ q. CanDo l.code (agents_of l.seats.items) q l.r → ⊥) l.seats.keys l.at
