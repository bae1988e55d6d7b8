use Rattle.simulate_laws.proofs.protocol.CacheKeeps.{keeps-rule}
use Rattle.simulate_laws.proofs.protocol.cache_laws.law_cache_rule_kept.Goals as goal

pub returns : goal.returns
returns c = keeps-rule
