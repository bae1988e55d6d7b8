use Rattle.simulate_laws.proofs.protocol.CacheGives.{gives-hints}
use Rattle.simulate_laws.proofs.protocol.cache_laws.law_cache_rule_gives.Goals as goal

pub returns : goal.returns
returns c = gives-hints
