use Rattle.std.proofs.Common.{subst}
use Rattle.std.specs.Prelude.{IfOk}
use Rattle.look_runs.specs.Seeded.{IsReport}
use Rattle.look_runs.proofs.run_work.run_shown.Goals as goal

pub returns-in-Ok : goal.returns-in-Ok
returns-in-Ok g c = record {
  p = c.in_ok-checked.checked;
  report = subst (λ r. IfOk r (IsReport c.in_ok-checked.checked c.args.single.now.way)) c.in-Ok.is c.shown_of-shown.ensures;
}
