use Rattle.np_site_runs.proofs.Running.{held_run_grows, held_run_starts}
use Rattle.np_site_runs.proofs.laws.law_held_run.Goals as goal

pub returns-clause-start : goal.returns-clause-start
returns-clause-start c = held_run_starts

pub returns-clause-run : goal.returns-clause-run
returns-clause-run c = held_run_grows
