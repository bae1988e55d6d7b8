use Rattle.std.proofs.Common.{arith}
use Rattle.std.proofs.lemmas.Grind.{common_steps}
use Rattle.np_parse.specs.Read.Programs.{program}
use Rattle.np_parse.proofs.programs.program.Goals as goal

pub returns : goal.returns
unfolding program
returns c = grind (arith, common_steps)
