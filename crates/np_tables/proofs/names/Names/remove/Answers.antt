use Rattle.np_tables.proofs.Members.{cut_keys}
use Rattle.np_tables.proofs.names.Names.remove.Goals as goal

pub returns-clause-members : goal.returns-clause-members
returns-clause-members c = rw (← c.self.view_is) (cut_keys c.self.inside.names.entries _ c.args.name c.swap_remove.ensures.updates.0)
