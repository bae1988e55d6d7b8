use Rattle.np_site_runs.proofs.Accounts.{account_grows, account_starts, came_follows}
use Rattle.np_site_runs.proofs.laws.law_account.Goals as goal

pub returns-clause-start : goal.returns-clause-start
returns-clause-start c = account_starts

pub returns-clause-run : goal.returns-clause-run
returns-clause-run c = account_grows

pub returns-clause-came : goal.returns-clause-came
returns-clause-came c = came_follows
