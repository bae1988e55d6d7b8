use Rattle.run_save.proofs.following.Ending.{settled_are_ours}
use Rattle.run_save.proofs.following.travel_laws.law_settled_are_ours.Goals as goal

pub returns : goal.returns
returns c = settled_are_ours
