use Rattle.np_site_runs.proofs.merged.Running.{merged_is_run}
use Rattle.np_site_runs.proofs.merged.Shown.{end_is_shown, told_by_parts}
use Rattle.np_site_runs.proofs.merged.stamped_laws.law_merged_is_run.Goals as goal

pub returns-clause-run : goal.returns-clause-run
returns-clause-run c = merged_is_run

pub returns-clause-one : goal.returns-clause-one
returns-clause-one c = told_by_parts

pub returns-clause-shown : goal.returns-clause-shown
returns-clause-shown c = end_is_shown
