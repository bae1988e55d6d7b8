use Rattle.np_site_runs.proofs.merged.Growing.{clock_goes_on, puts_follow, run_grows, run_starts, takes_follow}
use Rattle.np_site_runs.proofs.merged.stamped_laws.law_site_run.Goals as goal

pub returns-clause-start : goal.returns-clause-start
returns-clause-start c = run_starts

pub returns-clause-run : goal.returns-clause-run
returns-clause-run c = run_grows

pub returns-clause-clock : goal.returns-clause-clock
returns-clause-clock c = clock_goes_on

pub returns-clause-put : goal.returns-clause-put
returns-clause-put c = puts_follow

pub returns-clause-taken : goal.returns-clause-taken
returns-clause-taken c = takes_follow
