use Rattle.simulate_laws.proofs.things.Acting.{begins-by-thing}
use Rattle.simulate_laws.proofs.things.laws.law_begins.Goals as goal

pub returns : goal.returns
returns c i = begins-by-thing
