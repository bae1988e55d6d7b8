use Rattle.run_views.proofs.OneSteps.{one-arrival, one-step-is-run}
use Rattle.run_views.proofs.laws.law_one_step.Goals as goal

pub returns-clause-run : goal.returns-clause-run
returns-clause-run c = one-step-is-run

pub returns-clause-arrival : goal.returns-clause-arrival
returns-clause-arrival c = one-arrival
