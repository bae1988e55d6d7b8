use Rattle.std.proofs.Common.{arith}
use Rattle.std.proofs.lemmas.Grind.{common_steps}
use Rattle.np_scope.specs.Resolved.{main_of}
use Rattle.np_scope.proofs.programs.main_of.Goals as goal

pub returns : goal.returns
unfolding main_of
returns c = grind (arith, common_steps)
