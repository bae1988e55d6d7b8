use Rattle.np_tables.proofs.Keyed.{put_found, get-found}
use Rattle.np_tables.proofs.table.Table.insert.Goals as goal

pub returns-in-Ok-clause-ok : goal.returns-in-Ok-clause-ok
returns-in-Ok-clause-ok g c = rw (← c.self.view_is) (put_found c.self.inside.entries.entries _ c.args.key c.args.value c.in-Ok.ensures.updates.0)

pub returns-clause-absent : goal.returns-clause-absent
returns-clause-absent g c = rw (← c.self.view_is, get-found c.self.inside.entries.entries c.args.key) c.in-Err.ensures.absent
