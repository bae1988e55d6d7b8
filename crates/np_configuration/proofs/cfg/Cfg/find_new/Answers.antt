use Rattle.std.proofs.Common.{arith}
use Rattle.std.proofs.lemmas.Grind.{common_steps}
use Rattle.np_configuration.proofs.cfg.Cfg.find_new.Goals as goal

pub returns : goal.returns
returns c = grind (arith, common_steps)

pub returns-in_default-one_new : goal.returns-in_default-one_new
returns-in_default-one_new c = grind (arith, common_steps)

pub returns-in_default-as_new : goal.returns-in_default-as_new
returns-in_default-as_new c = grind (arith, common_steps)
