use Rattle.std.proofs.Common.{sym, ap, ◌∙◌}
use Rattle.std.specs.Option.{option_map}
use Rattle.std.specs.Map.Iter.{deref_pair}
use Rattle.np_tables.proofs.LineLaws.{first_busy}
use Rattle.np_tables.proofs.by_errand.any_busy.Goals as goal

pub returns-in-Some-clause-some : goal.returns-in-Some-clause-some
returns-in-Some-clause-some c =
    first_busy c.args.busy.now c.in-Some.meeting.now tt (ap (option_map deref_pair) (sym c.in-Some.is) ∙ c.first.ensures.entry)
