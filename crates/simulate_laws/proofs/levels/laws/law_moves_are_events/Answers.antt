use Rattle.simulate_laws.proofs.levels.Arrivals.{arrivals-are-events}
use Rattle.simulate_laws.proofs.levels.Creations.{creations-are-events}
use Rattle.simulate_laws.proofs.levels.Departures.{departures-are-events}
use Rattle.simulate_laws.proofs.levels.laws.law_moves_are_events.Goals as goal

pub returns-clause-creations : goal.returns-clause-creations
returns-clause-creations c i = creations-are-events

pub returns-clause-departures : goal.returns-clause-departures
returns-clause-departures c i = departures-are-events

pub returns-clause-arrivals : goal.returns-clause-arrivals
returns-clause-arrivals c i = arrivals-are-events
