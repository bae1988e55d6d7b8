use Rattle.simulate_laws.proofs.things.Sources.{sound-is-source}
use Rattle.simulate_laws.proofs.things.value_laws.law_sources.Goals as goal

pub returns : goal.returns
returns c = sound-is-source
