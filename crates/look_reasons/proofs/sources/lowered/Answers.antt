use Rattle.std.proofs.Common.{◌<◌, ◌^◌, length, Result, Ok, Err, IfOk, arith}
use Rattle.np_syntax.specs.declared.program.LowProgram.{LowProgram}
use Rattle.np_calculus.specs.Runs.{RunsWell}
use Rattle.np_calculus.specs.Starts.{start_low}
use Rattle.np_serial.proofs.SerialEvents.{low-sites}
use Rattle.look_reasons.proofs.sources.lowered.Goals as goal

-- a low program that can run has few sites
few : {E : Type 0} (r : Result LowProgram E) → IfOk r (λ low. RunsWell (start_low low) low.at) → IfOk r (λ low. length low.sites < 2 ^ 32)
few (Ok low) runs = omega (arith, runs.sites, low-sites low)
few (Err e) runs = tt

pub returns-clause-few : goal.returns-clause-few
returns-clause-few c = few c.low_of.result c.low_of.ensures.runs
