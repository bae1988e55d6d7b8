use Rattle.std.proofs.Common.{◌≡◌, ◌<◌, ◌≤◌, ℕ, Some}
use Rattle.std.specs.Prelude.{slice_get}
use Rattle.site_turn.specs.declared.seat.Seat.{Seat}
use Rattle.site_crew.specs.Following.{AllRest}
use Rattle.site_crew.specs.Seats.{Stand}
use Rattle.site_crew.proofs.catching.catch_all.Given as goal

abbrev pub invariant-loop-at : goal.invariant-loop-at
invariant-loop-at g l = record {
  stand : Stand g.P.Port l.code l.budget l.seats;
  rest : AllRest l.stamp l.fn.seats l.seats;
  late : (k : ℕ) (s : Seat _) → k < l.at → slice_get l.seats k ≡ Some s → l.stamp ≤ s.site.clock;
}
