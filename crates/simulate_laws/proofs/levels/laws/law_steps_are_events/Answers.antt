use Rattle.simulate_laws.proofs.levels.Ifs.{ifs-are-events}
use Rattle.simulate_laws.proofs.levels.Lets.{lets-are-events}
use Rattle.simulate_laws.proofs.levels.Locals.{locals-are-events}
use Rattle.simulate_laws.proofs.levels.News.{news-are-events}
use Rattle.simulate_laws.proofs.levels.Prints.{prints-are-events}
use Rattle.simulate_laws.proofs.levels.Stops.{stops-are-events}
use Rattle.simulate_laws.proofs.levels.laws.law_steps_are_events.Goals as goal

pub returns-clause-stops : goal.returns-clause-stops
returns-clause-stops c i = stops-are-events

pub returns-clause-news : goal.returns-clause-news
returns-clause-news c i = news-are-events

pub returns-clause-lets : goal.returns-clause-lets
returns-clause-lets c i = lets-are-events

pub returns-clause-ifs : goal.returns-clause-ifs
returns-clause-ifs c i = ifs-are-events

pub returns-clause-prints : goal.returns-clause-prints
returns-clause-prints c i = prints-are-events

pub returns-clause-locals : goal.returns-clause-locals
returns-clause-locals c i = locals-are-events
