use Rattle.history_conditions.proofs.Law.{refused_where_unmet}
use Rattle.history_conditions.proofs.laws.law_refused.Goals as goal

pub returns : goal.returns
returns c = refused_where_unmet
