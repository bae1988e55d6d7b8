use Rattle.std.specs.List.{AllByRecursion}
use Rattle.run_pictures.specs.Posts.{IsPost}
use Rattle.run_pictures.proofs.posts.posts_of.Given as goal

abbrev pub invariant-loop-step : goal.invariant-loop-step
invariant-loop-step l = AllByRecursion (IsPost l.columns l.steps) l.posts
