use Rattle.simulate_laws.proofs.protocol.Keeps.{keeps-protocol}
use Rattle.simulate_laws.proofs.protocol.laws.law_protocol_kept.Goals as goal

pub returns : goal.returns
returns c = keeps-protocol
