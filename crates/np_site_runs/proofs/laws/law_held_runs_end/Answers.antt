use Rattle.np_site_runs.proofs.Ending.{held_runs_end, low_runs_end}
use Rattle.np_site_runs.proofs.laws.law_held_runs_end.Goals as goal

pub returns-clause-run : goal.returns-clause-run
returns-clause-run c = held_runs_end

pub returns-clause-low : goal.returns-clause-low
returns-clause-low c = low_runs_end
