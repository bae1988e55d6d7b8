use Rattle.np_site_runs.proofs.Telling.{makes, tells}
use Rattle.np_site_runs.proofs.Within.{goes_on, goes_on_alone}
use Rattle.np_site_runs.proofs.holding_laws.law_own_events.Goals as goal

pub returns-clause-on : goal.returns-clause-on
returns-clause-on c = goes_on

pub returns-clause-alone : goal.returns-clause-alone
returns-clause-alone c = goes_on_alone

pub returns-clause-tells : goal.returns-clause-tells
returns-clause-tells c = tells

pub returns-clause-makes : goal.returns-clause-makes
returns-clause-makes c = makes
