use Rattle.std.proofs.Common.{◌≡◌, ◌++◌, map, drop}
use Rattle.picture_svg.specs.Placed.{joining, posted}
use Rattle.picture_svg.proofs.drawing.posts_of.Given as goal

-- the arrows so far, and those still to come
abbrev pub invariant-loop-post : goal.invariant-loop-post
invariant-loop-post l = map joining l.flights ++ map (posted l.middles l.marks) (drop l.post-index l.posts) ≡ map (posted l.middles l.marks) l.posts
