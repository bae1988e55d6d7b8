use Rattle.run_choices.proofs.Runs.{each-run}
use Rattle.run_choices.proofs.laws.law_each_run.Goals as goal

pub returns : goal.returns
returns c = each-run
