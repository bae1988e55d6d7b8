use Rattle.np_site_runs.proofs.Ending.{rests_in_holdings, still_by_one}
use Rattle.np_site_runs.proofs.laws.law_rests_in_holdings.Goals as goal

pub returns-clause-one : goal.returns-clause-one
returns-clause-one c = still_by_one

pub returns-clause-rest : goal.returns-clause-rest
returns-clause-rest c = rests_in_holdings
