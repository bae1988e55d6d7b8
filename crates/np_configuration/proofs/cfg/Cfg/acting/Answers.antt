use Rattle.std.proofs.Common.{arith}
use Rattle.std.proofs.lemmas.Grind.{common_steps}
use Rattle.np_configuration.proofs.cfg.Cfg.acting.Goals as goal

pub returns-in_default : goal.returns-in_default
returns-in_default c = grind (arith, common_steps)

pub returns-in_err-place : goal.returns-in_err-place
returns-in_err-place c = grind (arith, common_steps)

pub returns-in-At : goal.returns-in-At
returns-in-At c = grind (arith, common_steps)
