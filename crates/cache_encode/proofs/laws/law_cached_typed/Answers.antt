use Rattle.np_safety.proofs.Lows.{low-well-typed}
use Rattle.cache_encode.specs.Encoded.{encoded_cached}
use Rattle.cache_encode.proofs.CachedSounds.{cached-sound}
use Rattle.cache_encode.proofs.ProgramsTyped.{cached-faultless}
use Rattle.cache_encode.proofs.laws.law_cached_typed.Goals as goal

pub returns-clause-faultless : goal.returns-clause-faultless
returns-clause-faultless c = cached-faultless

pub returns-clause-sound : goal.returns-clause-sound
returns-clause-sound c p a = cached-sound p a.sound

pub returns-clause-along : goal.returns-clause-along
returns-clause-along c p a = low-well-typed (encoded_cached p) (cached-faultless p a)
