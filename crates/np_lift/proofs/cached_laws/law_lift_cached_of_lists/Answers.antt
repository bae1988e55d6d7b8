use Rattle.np_lift.proofs.Parts.{lift-of-parts, standing-of-parts}
use Rattle.np_lift.proofs.Table.{lifted-by-table}
use Rattle.np_lift.proofs.cached_laws.law_lift_cached_of_lists.Goals as goal

pub returns-clause-table : goal.returns-clause-table
returns-clause-table c = lifted-by-table

pub returns-clause-parts : goal.returns-clause-parts
returns-clause-parts c = lift-of-parts

pub returns-clause-standing : goal.returns-clause-standing
returns-clause-standing c = standing-of-parts
