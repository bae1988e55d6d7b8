-- What is answered of a checked program, by what is made of the program in it, and what the parts make.
use Rattle.std.proofs.Common.{◌≡◌, ℕ, List, length, Result, IfOk, subst, sym, ap, ◌∙◌}
use Rattle.np_syntax.specs.declared.memory.Memory.{Memory}
use Rattle.np_syntax.specs.declared.process.Proc.{Proc}
use Rattle.np_syntax.specs.declared.program.Program.{Program}
use Rattle.np_syntax.specs.declared.program.LowProgram.{LowProgram}
use Rattle.infrastructure_texts.specs.Daemon.{daemon_text}
use Rattle.daemon_encode.specs.Encoded.{encoded, main_of}

pub given_as : (p q : Program) (r : Result LowProgram Memory) → q ≡ p → IfOk r (λ low. low ≡ encoded q) → IfOk r (λ low. low ≡ encoded p)
given_as p q r same e = subst (λ q. IfOk r (λ low. low ≡ encoded q)) same e

-- a low program of these parts
low_of : (p : Program) (n : ℕ) (main : Proc × ℕ) → LowProgram
low_of p n main = record { sites = p.sites; at = p.at; main = main.0; daemon = daemon_text n p.at main.1 }

pub made_of : (p : Program) (n : ℕ) (main daemon : Proc) (next : ℕ) (sites : List (List ℕ)) → n ≡ length p.sites
    → main_of n p ≡ (main, next) → daemon ≡ daemon_text n p.at next → sites ≡ p.sites
    → ◌≡◌ {A = LowProgram} (record { sites = sites; at = p.at; main = main; daemon = daemon }) (encoded p)
unfolding low_of
made_of p n main daemon next sites count mains daemons names =
    let parts : ◌≡◌ {A = LowProgram} (record { sites = sites; at = p.at; main = main; daemon = daemon }) (low_of p n (main, next)) =
    ap (λ s. record { sites = s; at = p.at; main = main; daemon = daemon }) names ∙ ap (λ d. record { sites = p.sites; at = p.at; main = main; daemon = d }) daemons in
    parts ∙ ap (low_of p n) (sym mains) ∙ ap (λ k. low_of p k (main_of k p)) count
