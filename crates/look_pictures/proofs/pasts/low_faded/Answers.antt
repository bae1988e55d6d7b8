use Rattle.std.proofs.Common.{ap, is_some}
use Rattle.look_pictures.proofs.pasts.low_faded.Goals as goal

pub past-led-requires-clause-run : goal.past-led-requires-clause-run
past-led-requires-clause-run c = ap is_some c.requires.run.runs
