use Rattle.run_choices.proofs.Served.{each-own-run}
use Rattle.run_choices.proofs.laws.law_each_own_run.Goals as goal

pub returns : goal.returns
returns c = each-own-run
