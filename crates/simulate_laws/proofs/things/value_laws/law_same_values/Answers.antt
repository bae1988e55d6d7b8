use Rattle.simulate_laws.proofs.things.Values.{agent-stays, same-binding, same-value}
use Rattle.simulate_laws.proofs.things.value_laws.law_same_values.Goals as goal

pub returns-clause-value : goal.returns-clause-value
returns-clause-value c = same-value

pub returns-clause-binding : goal.returns-clause-binding
returns-clause-binding c = same-binding

pub returns-clause-agent : goal.returns-clause-agent
returns-clause-agent c = agent-stays
