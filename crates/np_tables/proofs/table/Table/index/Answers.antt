use Rattle.std.proofs.Common.{is_some, ap, sym, ◌∙◌}
use Rattle.std.specs.Map.{keys_of}
use Rattle.np_tables.proofs.Keyed.{get-found}
use Rattle.np_tables.proofs.Lendings.{place_found}
use Rattle.np_tables.proofs.table.Table.index.Goals as goal

pub returns-clause-found : goal.returns-clause-found
returns-clause-found g c = rw (← c.self.view_is) (c.get_index_of.ensures.found ∙ ap is_some (sym (get-found c.self.inside.entries.entries c.args.key)))

pub returns-clause-place : goal.returns-clause-place
returns-clause-place g c = rw (← c.self.view_is) (place_found (keys_of c.self.inside.entries.entries) c.args.key c.get_index_of.result c.get_index_of.ensures.index)
