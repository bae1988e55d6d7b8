use Rattle.run_merge.proofs.Ranks.{ascending, keeps_histories, keeps_events, no_others, only}
use Rattle.run_merge.proofs.laws.law_merged.Goals as goal

pub returns-clause-order : goal.returns-clause-order
returns-clause-order c = ascending

pub returns-clause-histories : goal.returns-clause-histories
returns-clause-histories c = keeps_histories

pub returns-clause-others : goal.returns-clause-others
returns-clause-others c = no_others

pub returns-clause-only : goal.returns-clause-only
returns-clause-only c = only

pub returns-clause-events : goal.returns-clause-events
returns-clause-events c = keeps_events
