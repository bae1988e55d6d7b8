use Rattle.np_site_runs.proofs.merged.LowStart.{low_start_is_settled}
use Rattle.np_site_runs.proofs.merged.Starting.{spread_by_sites}
use Rattle.np_site_runs.proofs.merged.stamped_laws.law_spread_by_sites.Goals as goal

pub returns-clause-sites : goal.returns-clause-sites
returns-clause-sites c = spread_by_sites

pub returns-clause-low : goal.returns-clause-low
returns-clause-low c = low_start_is_settled
