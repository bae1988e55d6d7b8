use Rattle.np_calculus.proofs.Acting.{acts_where_enabled}
use Rattle.np_calculus.proofs.laws.law_acts_where_enabled.Goals as goal

pub returns : goal.returns
returns c = acts_where_enabled
