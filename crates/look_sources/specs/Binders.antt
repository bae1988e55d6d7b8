-- How a source names the agents and the channels that it makes (docs/PICTURES.md, "Pictures").
use Rattle.std.specs.Prelude.{◌≡◌, ℕ, List, ◌++◌}
use Rattle.std.specs.List.{AllByRecursion}
use Rattle.picture_svg.specs.declared.cast.Binder.{Binder}

-- a name that stands in the source
pub record StandsIn (bytes name : List ℕ) : Type 0 where
  pub before : List ℕ
  pub behind : List ℕ
  pub is : bytes ≡ before ++ name ++ behind

-- no name is made up
abbrev pub AreNamed : List ℕ → List Binder → Type 0
AreNamed bytes binders = AllByRecursion (λ binder. StandsIn bytes binder.name) binders
