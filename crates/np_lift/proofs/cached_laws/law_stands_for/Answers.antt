use Rattle.np_lift.proofs.Standings.{standing-by-table}
use Rattle.np_lift.proofs.cached_laws.law_stands_for.Goals as goal

pub returns : goal.returns
returns c = standing-by-table
