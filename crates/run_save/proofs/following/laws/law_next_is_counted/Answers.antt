use Rattle.run_save.proofs.following.Names.{next_is_counted}
use Rattle.run_save.proofs.following.laws.law_next_is_counted.Goals as goal

pub returns : goal.returns
returns c = next_is_counted
