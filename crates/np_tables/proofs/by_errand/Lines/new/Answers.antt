use Rattle.np_tables.proofs.LineLaws.{none_first}
use Rattle.np_tables.proofs.by_errand.Lines.new.Goals as goal

pub returns : goal.returns
returns c = none_first c.new.result c.new-2.result c.new.ensures c.new-2.ensures.empty
