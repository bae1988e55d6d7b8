use Rattle.std.proofs.Common.{arith}
use Rattle.std.proofs.lemmas.Grind.{common_steps}
use Rattle.np_lex.specs.Strings.{string}
use Rattle.np_lex.proofs.strings.string.Goals as goal

pub returns-then-len-eq-LONGEST_STRING : goal.returns-then-len-eq-LONGEST_STRING
unfolding string
returns-then-len-eq-LONGEST_STRING c = grind (arith, common_steps)

pub bytes-preserved : goal.bytes-preserved
unfolding string
bytes-preserved c = grind (arith, common_steps)

pub returns-in-Close : goal.returns-in-Close
unfolding string
returns-in-Close c = grind (arith, common_steps)
