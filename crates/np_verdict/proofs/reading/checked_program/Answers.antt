use Rattle.std.proofs.Common.{inr, refl, rules}
use Rattle.np_verdict.proofs.reading.checked_program.Goals as goal

pub returns-in-Err-TypeFault-clause-refused : goal.returns-in-Err-TypeFault-clause-refused
returns-in-Err-TypeFault-clause-refused c = λ _. inr (inr (record {
  fault = c.in-Err-TypeFault.fault;
  is = refl;
  program = c.in_ok-program.program;
  read = c.in_ok-program.ensures.found;
  first = c.in-Err-TypeFault.ensures.refused c.in-Err-TypeFault.fault (search rules);
}))
