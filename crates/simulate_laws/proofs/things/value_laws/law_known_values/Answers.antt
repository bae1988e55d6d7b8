use Rattle.simulate_laws.proofs.things.Known.{keeps-known, known-more, value-is-known}
use Rattle.simulate_laws.proofs.things.value_laws.law_known_values.Goals as goal

pub returns-clause-value : goal.returns-clause-value
returns-clause-value c = value-is-known

pub returns-clause-binding : goal.returns-clause-binding
returns-clause-binding c = keeps-known

pub returns-clause-more : goal.returns-clause-more
returns-clause-more c = known-more
