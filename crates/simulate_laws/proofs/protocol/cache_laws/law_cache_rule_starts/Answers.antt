use Rattle.simulate_laws.proofs.protocol.CacheKeeps.{starts-by-rule}
use Rattle.simulate_laws.proofs.protocol.cache_laws.law_cache_rule_starts.Goals as goal

pub returns : goal.returns
returns c = starts-by-rule
