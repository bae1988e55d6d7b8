use Rattle.np_tables.proofs.LineLaws.{some-is_empty}
use Rattle.np_tables.proofs.by_errand.Lines.has_acting.Goals as goal

pub returns : goal.returns
returns c = rw (← c.self.view_is) (some-is_empty c.is_empty.result c.self.inside.acts c.is_empty.ensures.0 c.is_empty.ensures.1)
