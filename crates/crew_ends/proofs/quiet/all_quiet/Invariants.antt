use Rattle.std.proofs.Common.{◌≡◌, ◌<◌, ℕ, Some}
use Rattle.std.specs.Prelude.{slice_get}
use Rattle.site_turn.specs.declared.seat.Seat.{Seat}
use Rattle.crew_ends.specs.Quiet.{IsQuietSeat}
use Rattle.crew_ends.proofs.quiet.all_quiet.Given as goal

abbrev pub invariant-loop-i : goal.invariant-loop-i
invariant-loop-i g l = (k : ℕ) (s : Seat _) → slice_get l.seats k ≡ Some s → k < l.i → IsQuietSeat l.code s
