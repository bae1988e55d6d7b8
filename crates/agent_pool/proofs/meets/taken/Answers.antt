use Rattle.std.proofs.lemmas.Grind.{common_steps}
use Rattle.std.proofs.Common.{arith}
use Rattle.agent_pool.proofs.Outputs.{sends-given}
use Rattle.agent_pool.proofs.meets.taken.Goals as goal

pub returns-in-Given : goal.returns-in-Given
returns-in-Given c = λ agent. rw (c.in-Given.is, sends-given c.args.code.now.processes agent c.in-Given.field-0 c.in-Given.value c.in-Given.field-2) c.bind-in-Given.ensures

pub returns-in-Some-2 : goal.returns-in-Some-2
returns-in-Some-2 c = grind (arith, common_steps)

pub returns-in_default-2 : goal.returns-in_default-2
returns-in_default-2 c = grind (arith, common_steps)
