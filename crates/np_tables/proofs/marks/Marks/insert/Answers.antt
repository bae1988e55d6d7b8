use Rattle.np_tables.proofs.MarkLaws.{one_put, on_ok}
use Rattle.np_tables.proofs.marks.Marks.insert.Goals as goal

pub returns-in-Some-clause-ok : goal.returns-in-Some-clause-ok
returns-in-Some-clause-ok c =
    rw (← c.self.view_is)
    (on_ok c.insert.result (one_put c.self.inside.one c.self.inside.others.members c.in-Some.field-0 c.in-Some.is c.insert.new.self.members c.args.mark) c.insert.ensures.ok)
