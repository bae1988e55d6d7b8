use Rattle.simulate_laws.proofs.levels.Starts.{starts-coupled}
use Rattle.simulate_laws.proofs.levels.laws.law_coupled_starts.Goals as goal

pub returns : goal.returns
returns c i = starts-coupled
