use Rattle.np_tables.proofs.MarkLaws.{one_first}
use Rattle.np_tables.proofs.marks.Marks.alone.Goals as goal

pub returns-in-Some : goal.returns-in-Some
returns-in-Some c = rw (← c.self.view_is) (one_first c.self.inside.one c.self.inside.others.members c.in-Some.mark c.in-Some.is)
