use Rattle.cache_encode.proofs.CachedRelated.{cached-translates-itself, cached-encodes-itself}
use Rattle.cache_encode.proofs.laws.law_cached_translates.Goals as goal

pub returns-clause-process : goal.returns-clause-process
returns-clause-process c = cached-translates-itself

pub returns-clause-program : goal.returns-clause-program
returns-clause-program c = cached-encodes-itself
