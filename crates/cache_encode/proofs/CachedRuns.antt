-- The low start of an accepted program whose agents have caches can run.
use Rattle.daemon_encode.proofs.LowAgents.{low-runs-well}
use Rattle.cache_encode.specs.Encoded.{encoded_cached}
use Rattle.cache_encode.specs.Typed.{CachedRunsWell}
use Rattle.cache_encode.proofs.CachedSounds.{cached-sound}
use Rattle.cache_encode.proofs.ProgramsTyped.{cached-faultless}

pub cached-runs-well : CachedRunsWell
cached-runs-well p a = low-runs-well (encoded_cached p) a.sound.sites (cached-sound p a.sound) (cached-faultless p a)
