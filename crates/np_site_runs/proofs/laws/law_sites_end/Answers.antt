use Rattle.np_site_runs.proofs.Accounts.{low_sites_end, settled_are_runs}
use Rattle.np_site_runs.proofs.laws.law_sites_end.Goals as goal

pub returns-clause-runs : goal.returns-clause-runs
returns-clause-runs c = settled_are_runs

pub returns-clause-low : goal.returns-clause-low
returns-clause-low c = low_sites_end
