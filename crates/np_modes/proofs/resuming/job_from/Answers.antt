use Rattle.std.proofs.Common.{inr}
use Rattle.np_modes.proofs.resuming.job_from.Goals as goal

pub returns-in_ok-check_run-in-None-clause-refused : goal.returns-in_ok-check_run-in-None-clause-refused
returns-in_ok-check_run-in-None-clause-refused g c = λ other. inr (c.in_ok-check_run-in-None.ensures.run, c.stop_of.ensures other)
