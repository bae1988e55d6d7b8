use Rattle.np_safety.proofs.Starts.{runs-well}
use Rattle.np_safety.proofs.laws.law_runs_well.Goals as goal

pub returns : goal.returns
returns c = runs-well
