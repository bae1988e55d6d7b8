use Rattle.std.proofs.Common.{arith}
use Rattle.std.proofs.lemmas.Grind.{common_steps}
use Rattle.np_configuration.proofs.cfg.Cfg.find_fork.Goals as goal

pub returns-in_default-one_new : goal.returns-in_default-one_new
returns-in_default-one_new c = grind (arith, common_steps)

pub returns : goal.returns
returns c = grind (arith, common_steps)

pub returns-in_default-as_par : goal.returns-in_default-as_par
returns-in_default-as_par c = grind (arith, common_steps)
