use Rattle.std.proofs.Common.{arith}
use Rattle.std.proofs.lemmas.Grind.{common_steps}
use Rattle.np_lex.specs.Lexing.{word_kind}
use Rattle.np_lex.proofs.front.word_kind.Goals as goal

pub returns-then-text-gt-LONGEST_NAME : goal.returns-then-text-gt-LONGEST_NAME
unfolding word_kind
returns-then-text-gt-LONGEST_NAME c = grind (arith, common_steps)

pub returns : goal.returns
unfolding word_kind
returns c = grind (arith, common_steps)
