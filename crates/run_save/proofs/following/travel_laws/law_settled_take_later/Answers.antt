use Rattle.run_save.proofs.following.Stamps.{settled_take_later}
use Rattle.run_save.proofs.following.travel_laws.law_settled_take_later.Goals as goal

pub returns : goal.returns
returns c = settled_take_later
