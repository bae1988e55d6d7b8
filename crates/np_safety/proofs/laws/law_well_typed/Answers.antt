use Rattle.np_safety.proofs.Starts.{starts-typed, well-typed}
use Rattle.np_safety.proofs.laws.law_well_typed.Goals as goal

pub returns-clause-start : goal.returns-clause-start
returns-clause-start c = starts-typed

pub returns-clause-along : goal.returns-clause-along
returns-clause-along c = well-typed
