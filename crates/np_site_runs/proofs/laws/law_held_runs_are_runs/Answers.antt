use Rattle.np_site_runs.proofs.Running.{held_runs_are_runs}
use Rattle.np_site_runs.proofs.laws.law_held_runs_are_runs.Goals as goal

pub returns : goal.returns
returns c = held_runs_are_runs
