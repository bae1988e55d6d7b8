use Rattle.simulate_laws.proofs.simulation.Posts.{cached-letters-in-place, cached-letters-stand-above, letters-in-place, letters-stand-above}
use Rattle.simulate_laws.proofs.simulation.Placed.{cached-letters-have-one-place, letters-have-one-place}
use Rattle.simulate_laws.proofs.simulation.post_laws.law_one_place.Goals as goal

pub returns-clause-place : goal.returns-clause-place
returns-clause-place c = letters-in-place

pub returns-clause-held : goal.returns-clause-held
returns-clause-held c = letters-have-one-place

pub returns-clause-above : goal.returns-clause-above
returns-clause-above c = letters-stand-above

pub returns-clause-cached_place : goal.returns-clause-cached_place
returns-clause-cached_place c = cached-letters-in-place

pub returns-clause-cached_held : goal.returns-clause-cached_held
returns-clause-cached_held c = cached-letters-have-one-place

pub returns-clause-cached_above : goal.returns-clause-cached_above
returns-clause-cached_above c = cached-letters-stand-above
