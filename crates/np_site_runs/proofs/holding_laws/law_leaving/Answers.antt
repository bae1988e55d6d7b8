use Rattle.np_site_runs.proofs.Leaving.{leaves, sends}
use Rattle.np_site_runs.proofs.holding_laws.law_leaving.Goals as goal

pub returns-clause-agent : goal.returns-clause-agent
returns-clause-agent c = leaves

pub returns-clause-packet : goal.returns-clause-packet
returns-clause-packet c = sends
