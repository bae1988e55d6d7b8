use Rattle.run_merge.proofs.Values.{follows_prints, keeps_said, only_said}
use Rattle.run_merge.proofs.laws.law_said.Goals as goal

pub returns-clause-prints : goal.returns-clause-prints
returns-clause-prints c = follows_prints

pub returns-clause-said : goal.returns-clause-said
returns-clause-said c = keeps_said

pub returns-clause-only : goal.returns-clause-only
returns-clause-only c = only_said
