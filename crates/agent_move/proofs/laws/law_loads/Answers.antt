use Rattle.agent_move.proofs.Loads.{loads-are-items, loads-are-something}
use Rattle.agent_move.proofs.laws.law_loads.Goals as goal

pub returns-clause-items : goal.returns-clause-items
returns-clause-items c = loads-are-items

pub returns-clause-something : goal.returns-clause-something
returns-clause-something c = loads-are-something
