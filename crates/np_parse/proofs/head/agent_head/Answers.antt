use Rattle.std.proofs.Common.{arith}
use Rattle.std.proofs.lemmas.Grind.{common_steps}
use Rattle.np_parse.specs.Read.Heads.{agent_head}
use Rattle.np_parse.proofs.head.agent_head.Goals as goal

pub returns : goal.returns
unfolding agent_head
returns c = grind (arith, common_steps)
