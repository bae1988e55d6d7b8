use Rattle.std.proofs.Common.{arith}
use Rattle.std.proofs.lemmas.Grind.{common_steps}
use Rattle.np_parse.specs.Read.Heads.{replicated_head}
use Rattle.np_parse.proofs.head.replicated_head.Goals as goal

pub returns : goal.returns
unfolding replicated_head
returns c = grind (arith, common_steps)
