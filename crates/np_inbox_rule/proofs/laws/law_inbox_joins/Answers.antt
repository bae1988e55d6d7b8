use Rattle.np_inbox_rule.proofs.Steps.{got-merges, sent-merges}
use Rattle.np_inbox_rule.proofs.laws.law_inbox_joins.Goals as goal

pub returns-clause-sent : goal.returns-clause-sent
returns-clause-sent g c = sent-merges g.I.Addressed.sender

pub returns-clause-got : goal.returns-clause-got
returns-clause-got g c = got-merges g.I.Addressed.sender
