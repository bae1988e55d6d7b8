use Rattle.simulate_laws.proofs.simulation.Highs.{rests-together}
use Rattle.simulate_laws.proofs.simulation.rest_laws.law_rests_together.Goals as goal

pub returns : goal.returns
returns c = rests-together
