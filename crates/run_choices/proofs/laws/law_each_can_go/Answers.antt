use Rattle.run_choices.proofs.Chosen.{each-is-choice}
use Rattle.run_choices.proofs.Named.{each-can-go}
use Rattle.run_choices.proofs.laws.law_each_can_go.Goals as goal

pub returns : goal.returns
returns c = record { goes = each-can-go; choice = each-is-choice }
