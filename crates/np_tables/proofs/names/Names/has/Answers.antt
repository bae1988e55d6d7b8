use Rattle.std.proofs.Common.{sym, ◌∙◌}
use Rattle.std.specs.Map.{keys_of}
use Rattle.np_tables.proofs.Members.{contains-listed, listed-found}
use Rattle.np_tables.proofs.names.Names.has.Goals as goal

pub returns : goal.returns
returns c = rw (← c.self.view_is) (c.contains_key.ensures ∙ sym (contains-listed (keys_of c.self.inside.names.entries) c.args.name ∙ listed-found c.self.inside.names.entries c.args.name))
