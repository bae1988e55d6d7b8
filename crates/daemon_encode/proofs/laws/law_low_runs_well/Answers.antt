use Rattle.daemon_encode.proofs.LowAgents.{encodes-runs-well}
use Rattle.daemon_encode.proofs.laws.law_low_runs_well.Goals as goal

pub returns : goal.returns
returns c = encodes-runs-well
