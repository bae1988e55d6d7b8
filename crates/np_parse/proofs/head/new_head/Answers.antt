use Rattle.std.proofs.Common.{arith}
use Rattle.std.proofs.lemmas.Grind.{common_steps}
use Rattle.np_parse.specs.Read.Heads.{new_head}
use Rattle.np_parse.proofs.head.new_head.Goals as goal

pub returns : goal.returns
unfolding new_head
returns c = grind (arith, common_steps)
