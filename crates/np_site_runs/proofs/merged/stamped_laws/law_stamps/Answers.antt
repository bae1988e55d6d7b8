use Rattle.np_site_runs.proofs.merged.Growing.{stamps_rise}
use Rattle.np_site_runs.proofs.merged.Passing.{taken_later}
use Rattle.np_site_runs.proofs.merged.Running.{stamps_are_few}
use Rattle.np_site_runs.proofs.merged.stamped_laws.law_stamps.Goals as goal

pub returns-clause-rise : goal.returns-clause-rise
returns-clause-rise c = stamps_rise

pub returns-clause-few : goal.returns-clause-few
returns-clause-few c = stamps_are_few

pub returns-clause-taken : goal.returns-clause-taken
returns-clause-taken c = taken_later
