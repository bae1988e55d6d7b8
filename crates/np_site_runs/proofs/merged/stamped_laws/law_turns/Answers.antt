use Rattle.np_site_runs.proofs.merged.Turning.{have_turns, turn_goes_on, turn_is_apart}
use Rattle.np_site_runs.proofs.merged.stamped_laws.law_turns.Goals as goal

pub returns-clause-turns : goal.returns-clause-turns
returns-clause-turns c = have_turns

pub returns-clause-apart : goal.returns-clause-apart
returns-clause-apart c = turn_is_apart

pub returns-clause-step : goal.returns-clause-step
returns-clause-step c = turn_goes_on
