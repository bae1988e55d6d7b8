use Rattle.std.proofs.Common.{inr}
use Rattle.np_sources.proofs.lowering.compiled_of.Goals as goal

pub returns-in-Err-clause-refused : goal.returns-in-Err-clause-refused
returns-in-Err-clause-refused c = λ some. inr (record { program = c.in_ok-checked.checked; accepted = c.in_ok-checked.ensures.found; large = c.in-Err.ensures.refused some })
