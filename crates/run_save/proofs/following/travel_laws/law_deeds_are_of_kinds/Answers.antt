use Rattle.run_save.proofs.following.Ending.{deeds_are_of_kinds}
use Rattle.run_save.proofs.following.travel_laws.law_deeds_are_of_kinds.Goals as goal

pub returns : goal.returns
returns c = deeds_are_of_kinds
