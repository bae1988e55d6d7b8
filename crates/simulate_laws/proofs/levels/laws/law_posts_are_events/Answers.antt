use Rattle.simulate_laws.proofs.levels.Hirings.{messengers-are-hired}
use Rattle.simulate_laws.proofs.levels.Posts.{posts-are-events}
use Rattle.simulate_laws.proofs.levels.laws.law_posts_are_events.Goals as goal

pub returns-clause-sent : goal.returns-clause-sent
returns-clause-sent c i = posts-are-events

pub returns-clause-hired : goal.returns-clause-hired
returns-clause-hired c i = messengers-are-hired
