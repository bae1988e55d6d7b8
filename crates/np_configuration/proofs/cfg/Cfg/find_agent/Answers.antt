use Rattle.std.proofs.Common.{arith}
use Rattle.std.proofs.lemmas.Grind.{common_steps}
use Rattle.np_configuration.proofs.cfg.Cfg.find_agent.Goals as goal

pub returns-in_default-as_agent_form : goal.returns-in_default-as_agent_form
returns-in_default-as_agent_form c = grind (arith, common_steps)

pub returns-in_default-two_new : goal.returns-in_default-two_new
returns-in_default-two_new c = grind (arith, common_steps)

pub returns : goal.returns
returns c = grind (arith, common_steps)
