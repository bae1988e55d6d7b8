use Rattle.std.proofs.Common.{arith}
use Rattle.std.proofs.lemmas.Grind.{common_steps}
use Rattle.history_text.proofs.read.events_to_end.Goals as goal

pub lines-preserved : goal.lines-preserved
lines-preserved c = grind (arith, common_steps)
