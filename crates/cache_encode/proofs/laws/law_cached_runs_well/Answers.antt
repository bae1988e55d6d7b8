use Rattle.cache_encode.proofs.CachedRuns.{cached-runs-well}
use Rattle.cache_encode.proofs.laws.law_cached_runs_well.Goals as goal

pub returns : goal.returns
returns c = cached-runs-well
