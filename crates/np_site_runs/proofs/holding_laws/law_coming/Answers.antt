use Rattle.np_site_runs.proofs.Coming.{arrives, is_lost, lands}
use Rattle.np_site_runs.proofs.holding_laws.law_coming.Goals as goal

pub returns-clause-agent : goal.returns-clause-agent
returns-clause-agent c = arrives

pub returns-clause-packet : goal.returns-clause-packet
returns-clause-packet c = lands

pub returns-clause-lost : goal.returns-clause-lost
returns-clause-lost c = is_lost
