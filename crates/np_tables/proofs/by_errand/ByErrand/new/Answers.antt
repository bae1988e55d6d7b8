use Rattle.np_tables.proofs.LineLaws.{busy_none}
use Rattle.np_tables.proofs.by_errand.ByErrand.new.Goals as goal

pub returns-clause-busy : goal.returns-clause-busy
returns-clause-busy c = busy_none c.new.result c.new-2.result c.new.ensures c.new-2.ensures.empty
