use Rattle.np_safety.proofs.Runs.{keeps-typed, stays-typed, typed-is-well}
use Rattle.np_safety.proofs.laws.law_typed.Goals as goal

pub returns-clause-kept : goal.returns-clause-kept
returns-clause-kept c = keeps-typed

pub returns-clause-well : goal.returns-clause-well
returns-clause-well c = typed-is-well

pub returns-clause-along : goal.returns-clause-along
returns-clause-along c = stays-typed
