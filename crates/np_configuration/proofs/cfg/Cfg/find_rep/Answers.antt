use Rattle.std.proofs.Common.{arith}
use Rattle.std.proofs.lemmas.Grind.{common_steps}
use Rattle.np_configuration.proofs.cfg.Cfg.find_rep.Goals as goal

pub returns : goal.returns
returns c = grind (arith, common_steps)

pub returns-in_default-none_made : goal.returns-in_default-none_made
returns-in_default-none_made c = grind (arith, common_steps)

pub returns-in_default-2 : goal.returns-in_default-2
returns-in_default-2 c = grind (arith, common_steps)

pub returns-in_default-chan_of : goal.returns-in_default-chan_of
returns-in_default-chan_of c = grind (arith, common_steps)

pub returns-in_default-other : goal.returns-in_default-other
returns-in_default-other c = grind (arith, common_steps)

pub returns-in_default-as_rep : goal.returns-in_default-as_rep
returns-in_default-as_rep c = grind (arith, common_steps)

pub returns-in_default : goal.returns-in_default
returns-in_default c = grind (arith, common_steps)
