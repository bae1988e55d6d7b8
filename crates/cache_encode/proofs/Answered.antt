-- What is answered of a checked program, by what is made of the program in it.
use Rattle.std.proofs.Common.{◌≡◌, Result, Ok, Err, IfOk, subst, sym, ap, ◌∙◌}
use Rattle.np_syntax.specs.declared.memory.Memory.{Memory}
use Rattle.np_syntax.specs.declared.program.Program.{Program}
use Rattle.np_syntax.specs.declared.program.LowProgram.{LowProgram}
use Rattle.np_check.specs.Faults.{IsAccepted}
use Rattle.np_safety.specs.Low.{IsFaultless}
use Rattle.daemon_encode.specs.LowSound.{IsLowSound}
use Rattle.cache_encode.specs.Encoded.{encoded_cached}
use Rattle.cache_encode.proofs.CachedSounds.{cached-sound}
use Rattle.cache_encode.proofs.ProgramsTyped.{cached-faultless}

pub given_as : (p q : Program) (r : Result LowProgram Memory) → q ≡ p → IfOk r (λ low. low ≡ encoded_cached q) → IfOk r (λ low. low ≡ encoded_cached p)
given_as p q r same e = subst (λ q. IfOk r (λ low. low ≡ encoded_cached q)) same e

-- the same, where it is an accepted one
pub faultless_as : (p q : Program) (r : Result LowProgram Memory) → IsAccepted p → q ≡ p → IfOk r (λ low. low ≡ encoded_cached q) → IfOk r IsFaultless
faultless_as p q (Ok made) a same e = subst IsFaultless (ap encoded_cached (sym same) ∙ sym e) (cached-faultless p a)
faultless_as p q (Err m) a same e = tt

pub sound_as : (p q : Program) (r : Result LowProgram Memory) → IsAccepted p → q ≡ p → IfOk r (λ low. low ≡ encoded_cached q) → IfOk r IsLowSound
sound_as p q (Ok made) a same e = subst IsLowSound (ap encoded_cached (sym same) ∙ sym e) (cached-sound p a.sound)
sound_as p q (Err m) a same e = tt
