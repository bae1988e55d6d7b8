use Rattle.np_tables.proofs.MarkLaws.{one_first}
use Rattle.np_tables.proofs.marks.Marks.first.Goals as goal

pub returns-in-Some-clause-some : goal.returns-in-Some-clause-some
returns-in-Some-clause-some c = rw (← c.self.view_is) (one_first c.self.inside.one c.self.inside.others.members c.in-Some.mark c.in-Some.is)
