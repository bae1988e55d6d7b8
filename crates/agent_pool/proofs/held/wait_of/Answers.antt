use Rattle.std.proofs.Common.{sym}
use Rattle.agent_pool.proofs.Layers.{wait-given}
use Rattle.agent_pool.proofs.held.wait_of.Goals as goal

pub returns-in-Given : goal.returns-in-Given
returns-in-Given c = rw c.in-Given.is (sym (wait-given c.args.code.now.processes c.in-Given.chan c.in-Given.field-1 c.in-Given.field-2))
