use Rattle.std.proofs.Common.{sym}
use Rattle.np_configuration.proofs.Travels.{none-travels}
use Rattle.np_configuration.proofs.places.Places.under_way.Goals as goal

pub returns-in_err-agent-clause-none : goal.returns-in_err-agent-clause-none
returns-in_err-agent-clause-none c = rw (c.from_residual.ensures) (rw (sym c.self.view_is) (none-travels c.self.invariant (c.in_err-agent.ensures).none))
