use Rattle.simulate_laws.proofs.protocol.Gives.{acknowledged, keeps-order}
use Rattle.simulate_laws.proofs.protocol.laws.law_protocol_gives.Goals as goal

pub returns-clause-order : goal.returns-clause-order
returns-clause-order c = keeps-order

pub returns-clause-acknowledged : goal.returns-clause-acknowledged
returns-clause-acknowledged c = acknowledged
