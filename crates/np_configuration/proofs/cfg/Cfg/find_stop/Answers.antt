use Rattle.std.proofs.Common.{arith}
use Rattle.std.proofs.lemmas.Grind.{common_steps}
use Rattle.np_configuration.proofs.cfg.Cfg.find_stop.Goals as goal

pub returns-in_default-as_stop : goal.returns-in_default-as_stop
returns-in_default-as_stop c = grind (arith, common_steps)

pub returns-else-is_alone : goal.returns-else-is_alone
returns-else-is_alone c = grind (arith, common_steps)

pub returns-then-is_alone : goal.returns-then-is_alone
returns-then-is_alone c = grind (arith, common_steps)
