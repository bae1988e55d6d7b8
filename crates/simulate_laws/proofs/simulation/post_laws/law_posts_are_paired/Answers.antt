use Rattle.simulate_laws.proofs.simulation.Posts.{cached-posts-are-paired, posts-are-paired}
use Rattle.simulate_laws.proofs.simulation.post_laws.law_posts_are_paired.Goals as goal

pub returns-clause-central : goal.returns-clause-central
returns-clause-central c = posts-are-paired

pub returns-clause-cached : goal.returns-clause-cached
returns-clause-cached c = cached-posts-are-paired
