use Rattle.std.proofs.Common.{refl}
use Rattle.look_sources.proofs.runs.read_run.Goals as goal

pub returns-in-Ok : goal.returns-in-Ok
returns-in-Ok g c = record { bytes = c.as_slice.result.now; format = c.in-Ok.ensures.found.0; is = c.in-Ok.ensures.found.1; ends = refl }
