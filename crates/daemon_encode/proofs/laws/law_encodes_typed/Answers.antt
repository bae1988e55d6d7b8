use Rattle.np_safety.proofs.Lows.{low-well-typed}
use Rattle.daemon_encode.specs.Encoded.{encoded}
use Rattle.daemon_encode.proofs.LowSounds.{encodes-sound}
use Rattle.daemon_encode.proofs.ProgramsTyped.{encodes-faultless}
use Rattle.daemon_encode.proofs.laws.law_encodes_typed.Goals as goal

pub returns-clause-faultless : goal.returns-clause-faultless
returns-clause-faultless c = encodes-faultless

pub returns-clause-sound : goal.returns-clause-sound
returns-clause-sound c p a = encodes-sound p a.sound

pub returns-clause-along : goal.returns-clause-along
returns-clause-along c p a = low-well-typed (encoded p) (encodes-faultless p a)
