use Rattle.agent_pool.proofs.Showing.{changes_the_whole}
use Rattle.agent_pool.proofs.laws.law_shown.Goals as goal

pub returns : goal.returns
returns c = changes_the_whole
