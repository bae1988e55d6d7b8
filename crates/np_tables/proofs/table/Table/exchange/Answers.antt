use Rattle.std.proofs.Common.{sym, ◌∙◌}
use Rattle.np_tables.proofs.Keyed.{put_found, get-found}
use Rattle.np_tables.proofs.table.Table.exchange.Goals as goal

pub returns-clause-before : goal.returns-clause-before
returns-clause-before g c = rw (← c.self.view_is) (c.in-Ok.ensures.old ∙ sym (get-found c.self.inside.entries.entries c.args.key))

pub returns-clause-items : goal.returns-clause-items
returns-clause-items g c = rw (← c.self.view_is) (put_found c.self.inside.entries.entries _ c.args.key c.args.value c.in-Ok.ensures.updates.0)
