use Rattle.simulate_laws.proofs.simulation.Central.{central-runs-are-lifted}
use Rattle.simulate_laws.proofs.simulation.laws.law_runs_are_lifted.Goals as goal

pub returns : goal.returns
returns c = central-runs-are-lifted
