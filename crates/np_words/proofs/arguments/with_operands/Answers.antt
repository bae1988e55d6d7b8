use Rattle.np_words.proofs.arguments.with_operands.Goals as goal

pub returns : goal.returns
returns c = λ app is. c.with_further.ensures _ (c.with_operand-command-2.ensures _ (c.with_operand-command.ensures app is))
