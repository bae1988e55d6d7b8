use Rattle.std.proofs.Common.{arith}
use Rattle.std.proofs.lemmas.Grind.{common_steps}
use Rattle.site_crew.proofs.crew.Crew.into_histories.Goals as goal

pub returns : goal.returns
returns g c = grind (arith, common_steps)
