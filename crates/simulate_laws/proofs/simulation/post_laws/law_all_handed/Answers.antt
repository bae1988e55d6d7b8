use Rattle.simulate_laws.proofs.simulation.Posts.{cached-rests-above, cached-rests-all-handed, rests-above, rests-all-handed}
use Rattle.simulate_laws.proofs.simulation.post_laws.law_all_handed.Goals as goal

pub returns-clause-handed : goal.returns-clause-handed
returns-clause-handed c = rests-all-handed

pub returns-clause-above : goal.returns-clause-above
returns-clause-above c = rests-above

pub returns-clause-cached : goal.returns-clause-cached
returns-clause-cached c = cached-rests-all-handed

pub returns-clause-cached_above : goal.returns-clause-cached_above
returns-clause-cached_above c = cached-rests-above
