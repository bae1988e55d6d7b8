use Rattle.std.proofs.Common.{arith}
use Rattle.std.proofs.lemmas.Grind.{common_steps}
use Rattle.np_parse.specs.Read.Heads.{message}
use Rattle.np_parse.proofs.flat.message.Goals as goal

pub returns : goal.returns
unfolding message
returns c = grind (arith, common_steps)
