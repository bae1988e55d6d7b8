-- The list of two parts, and what stands for what after them.
use Rattle.std.proofs.Common.{[], ◌∷◌, refl, ap, ◌∙◌}
use Rattle.np_lift.specs.Posts.{prepended}
use Rattle.np_lift.proofs.Posts.{prepended-append}
use Rattle.np_lift.specs.CachedLift.{lifted, lift_from, standing_after}
use Rattle.np_lift.specs.CachedLaws.{LiftOfParts, StandingOfParts}

pub lift-of-parts : LiftOfParts
lift-of-parts s [] k = refl
lift-of-parts s (e ∷ h) k =
    ap (prepended (lifted s e).event) (lift-of-parts (lifted s e).standing h k)
    ∙ prepended-append (lifted s e).event (lift_from (lifted s e).standing h) (lift_from (standing_after (lifted s e).standing h) k)

pub standing-of-parts : StandingOfParts
standing-of-parts s [] k = refl
standing-of-parts s (e ∷ h) k = standing-of-parts (lifted s e).standing h k
