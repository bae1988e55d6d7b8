use Rattle.simulate_laws.proofs.protocol.Starts.{starts-in-order}
use Rattle.simulate_laws.proofs.protocol.laws.law_protocol_starts.Goals as goal

pub returns : goal.returns
returns c = starts-in-order
