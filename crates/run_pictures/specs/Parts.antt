-- Parts of a run (docs/PICTURES.md, "Long runs").
use Rattle.std.specs.Prelude.{ℕ, ◌+◌, Bool, true, false, ◌&&◌, ◌||◌, nat_le, nat_lt, List, [], ◌∷◌, ◌++◌, Option, None, Some}
use Rattle.std.specs.FinSet as set
use Rattle.np_syntax.specs.declared.value.Name.{Name}
use Rattle.np_syntax.specs.declared.event.Made.{Made}
use Rattle.np_syntax.specs.declared.event.Made.TheVariants as made
use Rattle.np_tables.specs.Names.{NameSet}
use Rattle.np_tables.specs.Stored.{StoredNames}
use Rattle.run_pictures.specs.declared.step.Step.{Step}
use Rattle.run_pictures.specs.declared.parts.Part.{Part}

abbrev pub is_among : NameSet → Option Name → Bool
is_among names None = false
is_among names (Some name) = set.contains names name

-- the agent that is made
abbrev pub child_of : Made → Option Name
child_of (made.Two agent mark) = Some agent
child_of _ = None

-- one of the agents acts in a step, or something goes to it, or it is made
abbrev pub concerns : NameSet → Step → Bool
concerns names step = (set.contains names step.agent || is_among names step.target) || is_among names (child_of step.event.made)

abbrev pub is_of : Option StoredNames → Step → Bool
is_of None step = true
is_of (Some names) step = concerns names.members step

-- the step of a number, counted from 0, is in a part
abbrev pub is_shown : Part → ℕ → Step → Bool
is_shown part place step = (nat_le part.first place && nat_lt place part.end) && is_of part.of step

abbrev pub one_if : Bool → Step → List Step
one_if true step = step ∷ []
one_if false step = []

-- the steps in a part, in their order, where the first has this number
abbrev pub part_from : Part → ℕ → List Step → List Step
part_from part place [] = []
part_from part place (step ∷ steps) = one_if (is_shown part place step) step ++ part_from part (place + 1) steps

abbrev pub part_of : Part → List Step → List Step
part_of part steps = part_from part 0 steps
