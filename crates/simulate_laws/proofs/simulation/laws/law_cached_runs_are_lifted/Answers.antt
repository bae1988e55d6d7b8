use Rattle.simulate_laws.proofs.simulation.Runs.{runs-are-lifted}
use Rattle.simulate_laws.proofs.simulation.laws.law_cached_runs_are_lifted.Goals as goal

pub returns : goal.returns
returns c i = runs-are-lifted
