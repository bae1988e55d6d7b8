use Rattle.np_calculus.specs.Starts.{start_low}
use Rattle.run_save.proofs.RunLaws.{prefix-ours}
use Rattle.run_save.proofs.laws.law_prefix_is_ours.Goals as goal

pub returns : goal.returns
returns c = λ q events k. prefix-ours (start_low q) events k
