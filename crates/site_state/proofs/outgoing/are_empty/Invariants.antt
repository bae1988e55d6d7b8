use Rattle.std.proofs.Common.{◌≡◌, ◌<◌, ℕ, []}
use Rattle.site_state.specs.Lines.{queue_at}
use Rattle.site_state.proofs.outgoing.are_empty.Given as goal

abbrev pub invariant-loop-i : goal.invariant-loop-i
invariant-loop-i l = (to : ℕ) → to < l.i → queue_at l.lines.items to ≡ []
