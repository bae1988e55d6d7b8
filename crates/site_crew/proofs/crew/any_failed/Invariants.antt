use Rattle.std.proofs.Common.{◌≡◌, ◌<◌, ℕ, Some, false}
use Rattle.std.specs.Prelude.{slice_get}
use Rattle.site_turn.specs.declared.seat.Seat.{Seat}
use Rattle.site_crew.proofs.crew.any_failed.Given as goal

abbrev pub invariant-loop-i : goal.invariant-loop-i
invariant-loop-i g l = (k : ℕ) (s : Seat _) → slice_get l.seats k ≡ Some s → k < l.i → s.failed ≡ false
