use Rattle.np_site_runs.proofs.Starting.{low_start_is_held}
use Rattle.np_site_runs.proofs.laws.law_low_start_is_held.Goals as goal

pub returns : goal.returns
returns c = low_start_is_held
