use Rattle.np_site_runs.proofs.merged.Links.{merged_run}
use Rattle.np_site_runs.proofs.merged.Steps.{steps_run}
use Rattle.np_site_runs.proofs.merged.laws.law_merged_run.Goals as goal

pub returns-clause-steps : goal.returns-clause-steps
returns-clause-steps c = steps_run

pub returns-clause-links : goal.returns-clause-links
returns-clause-links c = merged_run
