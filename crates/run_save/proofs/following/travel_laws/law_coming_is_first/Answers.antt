use Rattle.run_save.proofs.following.Coming.{coming_is_first}
use Rattle.run_save.proofs.following.travel_laws.law_coming_is_first.Goals as goal

pub returns : goal.returns
returns c = coming_is_first
