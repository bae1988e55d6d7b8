use Rattle.std.proofs.Common.{arith}
use Rattle.std.proofs.lemmas.Grind.{common_steps}
use Rattle.np_parse.specs.Read.Heads.{iflocal_head}
use Rattle.np_parse.proofs.head.iflocal_head.Goals as goal

pub returns-in_err-expect_word : goal.returns-in_err-expect_word
unfolding iflocal_head
returns-in_err-expect_word c = grind (arith, common_steps)

pub returns : goal.returns
unfolding iflocal_head
returns c = grind (arith, common_steps)
