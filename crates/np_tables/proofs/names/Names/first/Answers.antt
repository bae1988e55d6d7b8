use Rattle.std.proofs.Common.{sym, ap, ◌∙◌}
use Rattle.std.specs.Option.{option_map}
use Rattle.std.specs.Map.Iter.{deref_pair}
use Rattle.np_tables.proofs.Members.{first_there}
use Rattle.np_tables.proofs.names.Names.first.Goals as goal

pub returns-in-Some-clause-some : goal.returns-in-Some-clause-some
returns-in-Some-clause-some c =
    rw (← c.self.view_is) (first_there c.self.inside.names.entries c.in-Some.name.now tt (ap (option_map deref_pair) (sym c.in-Some.is) ∙ c.first.ensures.entry))
