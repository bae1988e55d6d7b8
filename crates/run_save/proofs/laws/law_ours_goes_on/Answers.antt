use Rattle.run_save.proofs.GoingOn.{ours-goes-on}
use Rattle.run_save.proofs.laws.law_ours_goes_on.Goals as goal

pub returns : goal.returns
returns c = ours-goes-on
