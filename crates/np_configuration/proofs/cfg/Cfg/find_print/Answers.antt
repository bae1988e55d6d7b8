use Rattle.std.proofs.Common.{arith}
use Rattle.std.proofs.lemmas.Grind.{common_steps}
use Rattle.np_configuration.proofs.cfg.Cfg.find_print.Goals as goal

pub returns : goal.returns
returns c = grind (arith, common_steps)

pub returns-then-not-is_alone : goal.returns-then-not-is_alone
returns-then-not-is_alone c = grind (arith, common_steps)

pub returns-in_default-as_print : goal.returns-in_default-as_print
returns-in_default-as_print c = grind (arith, common_steps)
