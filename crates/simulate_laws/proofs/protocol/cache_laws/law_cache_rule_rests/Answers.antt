use Rattle.simulate_laws.proofs.protocol.CacheGives.{nobody-waits}
use Rattle.simulate_laws.proofs.protocol.cache_laws.law_cache_rule_rests.Goals as goal

pub returns : goal.returns
returns c = nobody-waits
