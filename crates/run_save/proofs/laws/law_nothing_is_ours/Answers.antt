use Rattle.np_calculus.specs.Starts.{start_low}
use Rattle.run_save.proofs.RunLaws.{nothing-ours}
use Rattle.run_save.proofs.laws.law_nothing_is_ours.Goals as goal

pub returns : goal.returns
returns c = λ q. nothing-ours (start_low q)
