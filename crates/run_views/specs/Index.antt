-- An index of who wrote each thing last.
use Rattle.std.specs.Prelude.{◌≡◌, ◌<◌, ◌⊎◌, ℕ, false, List, [], ◌∷◌, ◌++◌, Option, None, Some}
use Rattle.std.specs.FinMap as map
use Rattle.np_syntax.specs.declared.value.Name.{Name}
use Rattle.np_tables.specs.Names.{NameMap}
use Rattle.np_calculus.specs.Footprints.{Footprint}
use Rattle.run_views.specs.Past.{IsLast, Thing, Trace, is_written}

-- of each mark and of the place of each agent, the place in the run of the event that wrote it last
pub record Index : Type 0 where
  pub marks : NameMap ℕ
  pub places : NameMap ℕ

abbrev pub found_in : Index → Thing → Option ℕ
found_in x (Thing.mark q) = map.get x.marks q
found_in x (Thing.place q) = map.get x.places q

-- what was found of a thing is true of the events before place j
abbrev pub IsFound : List Trace → ℕ → Thing → Option ℕ → Type 0
IsFound ts j t None = (m : ℕ) → m < j → is_written ts m t ≡ false
IsFound ts j t (Some k) = IsLast ts t k j

pub record IsIndex (ts : List Trace) (j : ℕ) (x : Index) : Type 0 where
  pub each : (t : Thing) → IsFound ts j t (found_in x t)

-- the index after the event at a place has written these
abbrev pub noted : NameMap ℕ → ℕ → List Name → NameMap ℕ
noted table j [] = table
noted table j (q ∷ qs) = noted (map.insert table q j) j qs

abbrev pub noting : Index → ℕ → Footprint → Index
noting x j f = record { marks = noted x.marks j f.marks; places = noted x.places j f.places }

-- who wrote last what an event touches
abbrev pub looked_up : NameMap ℕ → List Name → List (Option ℕ)
looked_up table [] = []
looked_up table (q ∷ qs) = map.get table q ∷ looked_up table qs

abbrev pub causes : Index → Footprint → List (Option ℕ)
causes x f = looked_up x.marks f.marks ++ looked_up x.places f.places

-- a place is one of them
abbrev pub IsOneOf : ℕ → List (Option ℕ) → Type 0
IsOneOf k [] = ⊥
IsOneOf k (o ∷ os) = (o ≡ Some k) ⊎ IsOneOf k os
