use Rattle.site_state.specs.declared.line.TheConstants.{PLACES}
use Rattle.site_state.specs.Lines.{HaveRoomBelow, SameLines}
use Rattle.site_state.proofs.outgoing.reserve_each.Given as goal

abbrev pub invariant-loop-i : goal.invariant-loop-i
invariant-loop-i l = SameLines l.initial.lines.items l.lines.items × HaveRoomBelow l.i PLACES l.lines.items
