use Rattle.np_tables.proofs.Members.{empty_of_none, none_of_empty}
use Rattle.np_tables.proofs.names.Names.is_empty.Goals as goal

pub returns : goal.returns
returns c = rw (← c.self.view_is) (
  (λ t. empty_of_none c.self.inside.names.entries (c.is_empty.ensures.0 t)),
  (λ e. c.is_empty.ensures.1 (none_of_empty c.self.inside.names.entries e)),
)
