use Rattle.std.proofs.Common.{sym, ap, ◌∙◌}
use Rattle.np_tables.specs.Names.{with_one}
use Rattle.np_tables.proofs.MarkLaws.{one_gone, one_stays}
use Rattle.np_tables.proofs.marks.Marks.remove.Goals as goal

pub returns-then-matches_one : goal.returns-then-matches_one
returns-then-matches_one c =
    rw (← c.self.view_is) (c.remove_other.ensures ∙ one_gone c.self.inside.one c.self.inside.others.members c.args.mark (sym c.if-matches_one.ensures))

pub returns-else-matches_one : goal.returns-else-matches_one
returns-else-matches_one c =
    rw (← c.self.view_is)
    (ap (with_one c.self.inside.one) c.remove_other.ensures ∙ one_stays c.self.inside.one c.self.inside.others.members c.args.mark (sym c.if-matches_one.ensures))
