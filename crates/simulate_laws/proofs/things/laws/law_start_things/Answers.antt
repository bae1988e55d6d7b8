use Rattle.simulate_laws.proofs.things.Starts.{starts-with-things}
use Rattle.simulate_laws.proofs.things.laws.law_start_things.Goals as goal

pub returns : goal.returns
returns c i = starts-with-things
