use Rattle.np_on_sites.proofs.Safe.{low_runs_safely}
use Rattle.np_on_sites.proofs.laws.law_low_runs_safely.Goals as goal

pub returns : goal.returns
returns c =
    low_runs_safely c.law_translates.ensures.program c.law_cached_translates.ensures.program c.law_low_runs_well.ensures c.law_cached_runs_well.ensures c.law_roles.ensures
    c.law_cached_runs_are_lifted.ensures
