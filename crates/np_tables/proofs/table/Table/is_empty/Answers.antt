use Rattle.np_tables.proofs.Keyed.{empty_of_none, none_of_empty}
use Rattle.np_tables.proofs.table.Table.is_empty.Goals as goal

pub returns : goal.returns
returns g c = rw (← c.self.view_is) (
  (λ t. empty_of_none c.self.inside.entries.entries (c.is_empty.ensures.0 t)),
  (λ e. c.is_empty.ensures.1 (none_of_empty c.self.inside.entries.entries e)),
)
