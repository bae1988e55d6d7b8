use Rattle.std.proofs.Common.{◌≡◌, ℕ, ◌<◌, ◌≤◌, length, get_or}
use Rattle.site_turn.specs.declared.seat.Seat.{Seat}
use Rattle.site_turn.specs.Turns.{TookTurn}
use Rattle.site_crew.proofs.turns.serial_turns.Given as goal

abbrev pub invariant-loop-i : goal.invariant-loop-i
invariant-loop-i g l = record {
  done : (k : ℕ) (d : Seat _) → k < l.i → TookTurn g.P.Port l.code l.walks (get_or l.fn.seats k d) (get_or l.seats k d);
  rest : (k : ℕ) (d : Seat _) → l.i ≤ k → k < length l.seats → get_or l.seats k d ≡ get_or l.fn.seats k d;
}
