use Rattle.np_tables.proofs.LineLaws.{if_none, none_of-empty}
use Rattle.np_tables.proofs.by_errand.Lines.any_acting.Goals as goal

pub returns-clause-none : goal.returns-clause-none
returns-clause-none c = rw (← c.self.view_is) (if_none c.any.result (none_of-empty c.self.inside.acts) c.any.ensures.none)
