use Rattle.simulate_laws.proofs.simulation.Lodged.{runs-are-lodged}
use Rattle.simulate_laws.proofs.simulation.laws.law_runs_are_lodged.Goals as goal

pub returns : goal.returns
returns c i = runs-are-lodged
