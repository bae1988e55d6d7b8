use Rattle.std.proofs.lemmas.Grind.{common_steps}
use Rattle.std.proofs.Common.{arith}
use Rattle.np_configuration.proofs.Keeping.{kept-none}
use Rattle.np_configuration.proofs.start.names_alone.Goals as goal

pub invariant_of-result : goal.invariant_of-result
invariant_of-result c = rw (c.new-5.ensures, c.new-2.ensures, c.new-3.ensures) (kept-none _)

pub returns : goal.returns
returns c = grind (arith, common_steps)
