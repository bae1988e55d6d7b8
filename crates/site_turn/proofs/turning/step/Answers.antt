use Rattle.std.proofs.Common.{arith}
use Rattle.std.proofs.lemmas.Grind.{common_steps}
use Rattle.site_turn.proofs.turning.step.Goals as goal

pub returns-else-effort-clause-stepped : goal.returns-else-effort-clause-stepped
returns-else-effort-clause-stepped g c = grind (arith, common_steps)
