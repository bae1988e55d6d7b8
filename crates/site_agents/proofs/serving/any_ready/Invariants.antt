use Rattle.std.proofs.Common.{◌≡◌, Some}
use Rattle.std.specs.FinMap as map
use Rattle.np_tables.proofs.Walks.{Before}
use Rattle.site_agents.specs.declared.seat.Seat.{Seat}
use Rattle.site_agents.specs.Standings.{CanNothing}
use Rattle.site_agents.proofs.serving.any_ready.Given as goal

abbrev pub invariant-loop-at : goal.invariant-loop-at
invariant-loop-at l = Before (λ q. (s : Seat) → map.get l.seats.items q ≡ Some s → CanNothing l.code s.agent) l.seats.keys l.at
