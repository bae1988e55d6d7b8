use Rattle.run_choices.proofs.Served.{each-serves}
use Rattle.run_choices.proofs.Turned.{each-is-served}
use Rattle.run_choices.proofs.laws.law_each_is_served.Goals as goal

pub returns : goal.returns
returns c = record { served = each-is-served; serves = each-serves }
