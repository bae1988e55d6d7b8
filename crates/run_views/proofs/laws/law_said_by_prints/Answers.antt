use Rattle.run_views.proofs.Sayings.{low-said-by-prints, said-by-prints}
use Rattle.run_views.proofs.laws.law_said_by_prints.Goals as goal

pub returns-clause-run : goal.returns-clause-run
returns-clause-run c = said-by-prints

pub returns-clause-low_run : goal.returns-clause-low_run
returns-clause-low_run c = low-said-by-prints
