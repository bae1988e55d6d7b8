use Rattle.np_lift.proofs.Posts.{deeds-of-parts, handed-is-paired, posts-are-lifted, prefix-is-paired}
use Rattle.np_lift.proofs.laws.law_posts.Goals as goal

pub returns-clause-parts : goal.returns-clause-parts
returns-clause-parts c = deeds-of-parts

pub returns-clause-handed : goal.returns-clause-handed
returns-clause-handed c = handed-is-paired

pub returns-clause-prefix : goal.returns-clause-prefix
returns-clause-prefix c = prefix-is-paired

pub returns-clause-lifted : goal.returns-clause-lifted
returns-clause-lifted c = posts-are-lifted
