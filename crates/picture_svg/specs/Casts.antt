-- The agents and the channels of a picture, each by its number in the order in which they are made; of the agents main is the first and
-- the daemon the second (docs/PICTURES.md, "Pictures").
use Rattle.std.specs.Prelude.{ℕ, ◌-◌, ◌%◌, nat_eq, if◌then◌else◌, List, Option, None, Some, codes, slice_get}
use Rattle.picture_svg.specs.declared.cast.TheConstants.{HUES}
use Rattle.picture_svg.specs.declared.shapes.Hue.{Hue}
use Rattle.picture_svg.specs.declared.shapes.Hue.TheVariants as hues

-- main and the daemon have hues of their own, and the others take turns
abbrev pub hue_by : ℕ → Hue
hue_by number =
    if nat_eq number 0 then hues.Main else (if nat_eq number 1 then hues.Daemon else hues.Agent ((number - 2) % HUES))

abbrev pub hue_of : Option ℕ → Hue
hue_of None = hues.Plain
hue_of (Some number) = hue_by number

abbrev pub found : Option (List ℕ) → List ℕ
found None = codes "?"
found (Some name) = name

-- the name under a number
abbrev pub name_of : Option ℕ → List (List ℕ) → List ℕ
name_of None names = codes "?"
name_of (Some number) names = found (slice_get names number)
