-- Many parts side by side, in any order.
use Rattle.std.specs.Prelude.{◌≡◌, List, [], ◌∷◌}
use Rattle.np_calculus.specs.Parts.{IsApart, beside, nothing}
use Rattle.np_calculus.specs.Sight.{Contents}

abbrev pub together : List Contents → Contents
together [] = nothing
together (p ∷ ps) = beside p (together ps)

abbrev pub AreApart : List Contents → Type 0
AreApart [] = Unit {0}
AreApart (p ∷ ps) = IsApart p (together ps) × AreApart ps

-- the whole is its parts, which are apart
pub record IsJoined (whole : Contents) (parts : List Contents) : Type 0 where
  pub is : whole ≡ together parts
  pub apart : AreApart parts
