use Rattle.std.proofs.Common.{subst}
use Rattle.picture_svg.specs.Pictures.{IsPicture}
use Rattle.look_pictures.proofs.parts.part_shown.Goals as goal

pub returns-in-Ok-drawn : goal.returns-in-Ok-drawn
returns-in-Ok-drawn c = record {
  part = c.in_ok-part.part;
  wanted = c.in_ok-part.ensures;
  picture = subst (λ s. IsPicture s c.in-Ok-drawn.text) c.in-Ok-part_of.ensures c.in-Ok-drawn.ensures;
}
