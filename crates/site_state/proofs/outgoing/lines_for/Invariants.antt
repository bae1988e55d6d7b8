use Rattle.site_state.specs.declared.line.TheConstants.{PLACES}
use Rattle.site_state.specs.Lines.{AreEmpty, HaveRoom}
use Rattle.site_state.proofs.outgoing.lines_for.Given as goal

abbrev pub invariant-loop : goal.invariant-loop
invariant-loop l = AreEmpty l.counter l.lines.items × HaveRoom PLACES l.lines.items
