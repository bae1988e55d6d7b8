use Rattle.run_views.proofs.PastRuns.{past-is-run, low-past-is-run, print-says}
use Rattle.run_views.proofs.laws.law_past.Goals as goal

pub returns-clause-run : goal.returns-clause-run
returns-clause-run c = past-is-run

pub returns-clause-low_run : goal.returns-clause-low_run
returns-clause-low_run c = low-past-is-run

pub returns-clause-says : goal.returns-clause-says
returns-clause-says c = print-says
