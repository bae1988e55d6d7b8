use Rattle.std.proofs.Common.{ap, is_some}
use Rattle.look_pictures.proofs.pasts.high_faded.Goals as goal

pub past_high-led-requires-clause-run : goal.past_high-led-requires-clause-run
past_high-led-requires-clause-run c = ap is_some c.requires.run.runs
