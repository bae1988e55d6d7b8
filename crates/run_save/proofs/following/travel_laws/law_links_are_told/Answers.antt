use Rattle.run_save.proofs.following.Ending.{links_are_told}
use Rattle.run_save.proofs.following.travel_laws.law_links_are_told.Goals as goal

pub returns : goal.returns
returns c = links_are_told
