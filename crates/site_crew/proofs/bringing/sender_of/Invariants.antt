use Rattle.std.proofs.Common.{◌≡◌, ◌<◌, ℕ, Some}
use Rattle.std.specs.Prelude.{slice_get}
use Rattle.site_turn.specs.declared.seat.Seat.{Seat}
use Rattle.site_crew.specs.Bringing.{HasDue}
use Rattle.site_crew.proofs.bringing.sender_of.Given as goal

abbrev pub invariant-loop-from : goal.invariant-loop-from
invariant-loop-from g l = (k : ℕ) (s : Seat _) → k < l.from → slice_get l.seats k ≡ Some s → HasDue l.event s → ⊥
