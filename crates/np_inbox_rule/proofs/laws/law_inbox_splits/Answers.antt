use Rattle.np_inbox_rule.proofs.Steps.{got-forks, sender-forks, sent-forks, site-forks}
use Rattle.np_inbox_rule.proofs.laws.law_inbox_splits.Goals as goal

pub returns-clause-site : goal.returns-clause-site
returns-clause-site g c = site-forks g.I.Addressed.sender

pub returns-clause-sender : goal.returns-clause-sender
returns-clause-sender g c = sender-forks g.I.Addressed.sender

pub returns-clause-sent : goal.returns-clause-sent
returns-clause-sent g c = sent-forks g.I.Addressed.sender

pub returns-clause-got : goal.returns-clause-got
returns-clause-got g c = got-forks g.I.Addressed.sender
