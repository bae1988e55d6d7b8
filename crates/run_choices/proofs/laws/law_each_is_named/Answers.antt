use Rattle.run_choices.proofs.Chosen.{each-is-picked}
use Rattle.run_choices.proofs.Named.{each-is-named}
use Rattle.run_choices.proofs.laws.law_each_is_named.Goals as goal

pub returns : goal.returns
returns c = record { named = each-is-named; picked = each-is-picked }
