use Rattle.simulate_laws.proofs.levels.Roles.{roles-of-events}
use Rattle.simulate_laws.proofs.levels.laws.law_roles.Goals as goal

pub returns : goal.returns
returns c i = roles-of-events
