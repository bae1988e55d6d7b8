-- The low program of an accepted program has no fault.
use Rattle.std.proofs.Common.{◌≡◌, ◌<◌, ℕ, true, length, nat_lt, Result, Ok, Err, IfOk, subst, sym, ap, ◌∙◌, arith}
use Rattle.std.proofs.lemmas.Bool.Decides.{nat_tests}
use Rattle.std.specs.FinMap as table
use Rattle.std.specs.FinMap.{get-empty}
use Rattle.std.specs.Ordering.{nat_cmp}
use Rattle.np_syntax.specs.declared.types.Ty as ty
use Rattle.np_syntax.specs.declared.types.Ty.TheVariants.{outs-Agent}
use Rattle.np_syntax.specs.declared.memory.Memory.{Memory}
use Rattle.np_syntax.specs.declared.program.Program.{Program}
use Rattle.np_syntax.specs.declared.program.LowProgram.{LowProgram}
use Rattle.np_types.specs.Sub.{is_agent}
use Rattle.np_check.specs.Faults.{IsAccepted}
use Rattle.np_safety.specs.Low.{IsFaultless, infrastructure}
use Rattle.np_safety.proofs.Starts.{accepted, below-is}
use Rattle.infrastructure_texts.specs.Pieces.{main}
use Rattle.daemon_encode.specs.Encoded.{encoded}
use Rattle.daemon_encode.specs.LowSound.{IsLowSound}
use Rattle.daemon_encode.specs.Typed.{EncodesFaultless}
use Rattle.daemon_encode.proofs.Binding.{Free, clean}
use Rattle.daemon_encode.proofs.DaemonTyped.{low, good-daemon}
use Rattle.daemon_encode.proofs.LowSounds.{encodes-sound}
use Rattle.daemon_encode.proofs.Making.{least-agent}
use Rattle.daemon_encode.proofs.ProcessesTyped.{Place, translated-good}
use Rattle.daemon_encode.proofs.Binders.{among-below}
use Rattle.daemon_encode.proofs.SoundBinds.{sound-clean}
use Rattle.daemon_encode.proofs.TextsTyped.{good-main}

is_below : (x n : ℕ) → nat_lt x n ≡ true → x < n
is_below x n h = grind (arith, nat_tests)

-- the binders of the program
pub own_binders : Program → Free
own_binders p x = nat_lt x p.binders

pub at_first : (p : Program) (some : nat_lt 0 (length p.sites) ≡ true) → Place (length p.sites) some table.empty (own_binders p) (main (length p.sites)) p.binders
unfolding own_binders
at_first p some = record {
  room = record { unbound = λ x h. get-empty nat_cmp x; small = λ x h. is_below x p.binders h; fresh = λ x h. get-empty nat_cmp x };
  agent = record { type = ty.Agent; is = least-agent (low (length p.sites)) table.empty (length p.sites) 0; passes = ap is_agent outs-Agent };
}

pub clean-main : (p : Program) → IsAccepted p → clean p.main (own_binders p) ≡ true
unfolding own_binders
clean-main p a = sound-clean (own_binders p) a.sound.main a.sound.once (λ x m. below-is x p.binders (among-below p.binders a.sound.bound a.sound.below x m))

pub encodes-faultless : EncodesFaultless
encodes-faultless p a =
    let n : ℕ = length p.sites in
    let site : p.at < n = a.sound.at in
    let within : nat_lt p.at n ≡ true = below-is p.at n site in
    let some : nat_lt 0 n ≡ true = below-is 0 n (omega (arith, site)) in
    let done = translated-good n some p.main table.empty (own_binders p) (main n) p.binders (at_first p some) (clean-main p a) (accepted p (infrastructure n) a) in
    record { main = good-main n some table.empty p.at _ _ _ within (λ e. omega (arith, e)) done.good; daemon = good-daemon n table.empty p.at _ within }

-- what is answered, where it is the low program of an accepted one
pub faultless_as : (p q : Program) (r : Result LowProgram Memory) → IsAccepted p → q ≡ p → IfOk r (λ low. low ≡ encoded q) → IfOk r IsFaultless
faultless_as p q (Ok made) a same e = subst IsFaultless (ap encoded (sym same) ∙ sym e) (encodes-faultless p a)
faultless_as p q (Err m) a same e = tt

pub sound_as : (p q : Program) (r : Result LowProgram Memory) → IsAccepted p → q ≡ p → IfOk r (λ low. low ≡ encoded q) → IfOk r IsLowSound
sound_as p q (Ok made) a same e = subst IsLowSound (ap encoded (sym same) ∙ sym e) (encodes-sound p a.sound)
sound_as p q (Err m) a same e = tt
