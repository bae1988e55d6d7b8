use Rattle.np_lift.proofs.Lifted.{lifted-by-table, lift-of-parts}
use Rattle.np_lift.proofs.laws.law_lift_of_lists.Goals as goal

pub returns-clause-table : goal.returns-clause-table
returns-clause-table c = lifted-by-table

pub returns-clause-parts : goal.returns-clause-parts
returns-clause-parts c = lift-of-parts
