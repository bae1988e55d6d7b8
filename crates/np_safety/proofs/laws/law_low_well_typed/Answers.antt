use Rattle.np_safety.proofs.Lows.{low-starts-typed, low-well-typed}
use Rattle.np_safety.proofs.laws.law_low_well_typed.Goals as goal

pub returns-clause-start : goal.returns-clause-start
returns-clause-start c = low-starts-typed

pub returns-clause-along : goal.returns-clause-along
returns-clause-along c = low-well-typed
