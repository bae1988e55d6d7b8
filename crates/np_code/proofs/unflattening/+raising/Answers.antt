use Rattle.std.proofs.Common.{arith}
use Rattle.std.proofs.lemmas.Grind.{common_steps}
use Rattle.np_code.proofs.unflattening.+raising.Goals as goal

pub raise_form-raise_two-requires-in-Lookup : goal.raise_form-raise_two-requires-in-Lookup
raise_form-raise_two-requires-in-Lookup t c = grind (arith, common_steps)

pub raise_two-returns : goal.raise_two-returns
raise_two-returns t c = grind (arith, common_steps)
