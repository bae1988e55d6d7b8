use Rattle.std.proofs.Common.{sym, ◌∙◌}
use Rattle.np_tables.proofs.MarkLaws.{one_there, one_away}
use Rattle.np_tables.proofs.marks.Marks.has.Goals as goal

pub returns-then-matches_one : goal.returns-then-matches_one
returns-then-matches_one c =
    rw (← c.self.view_is)
    (c.matches_one.ensures ∙ sym c.if-matches_one.ensures ∙ one_there c.self.inside.one c.self.inside.others.members c.args.mark (sym c.if-matches_one.ensures))

pub returns-else-matches_one : goal.returns-else-matches_one
returns-else-matches_one c = rw (← c.self.view_is) (c.has_other.ensures ∙ one_away c.self.inside.one c.self.inside.others.members c.args.mark (sym c.if-matches_one.ensures))
