-- Where agents are, as the code keeps it.
use Rattle.std.specs.Prelude.{◌≡◌, ℕ, Bool, true, false, Option, None, Some, refl}
use Rattle.std.specs.Coded.{Coded, code_by, coded×, coded_ℕ}
use Rattle.std.specs.FinMap as map
use Rattle.std.specs.FinSet as set
use Rattle.np_syntax.specs.declared.value.Name.{Name}
use Rattle.np_syntax.specs.contracts.value.Name as name
use Rattle.np_calculus.specs.declared.config.Place.{Place}
use Rattle.np_calculus.specs.declared.config.Place.TheVariants as place
use Rattle.np_calculus.specs.contracts.config.Place as places
use Rattle.np_calculus.specs.Reductions.{way}
use Rattle.np_tables.specs.Names.{NameMap, NameSet}

-- where each agent is, and for how many agents more there is room: on the whole, and under way
pub record Placed : Type 0 where
  pub items : NameMap Place
  pub spare : ℕ
  pub gates : ℕ

abbrev pub placed_code : Coded Placed
placed_code = code_by (NameMap Place × (ℕ × ℕ)) (coded× (map.code name.the_row.coded places.the_row.coded) (coded× coded_ℕ coded_ℕ))
    (λ p. (p.items, (p.spare, p.gates)))
    (λ p. record { items = p.0; spare = p.1.0; gates = p.1.1 }) (λ _. refl)

abbrev pub travels : Option Place → Bool
travels (Some (place.Way s)) = true
travels _ = false

-- every agent stands at a site
pub record NoneTravels (places : NameMap Place) : Type 0 where
  pub each : (agent : Name) (p : Place) → map.get places agent ≡ Some p → way p ≡ None

-- the set has just the agents that are under way
pub record IsTravelling (placed : NameMap Place) (under_way : NameSet) : Type 0 where
  pub each : (agent : Name) → set.contains under_way agent ≡ travels (map.get placed agent)
