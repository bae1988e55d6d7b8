-- What is said of a refusal (docs/PICTURES.md, "Refusals").
use Rattle.std.specs.Prelude.{◌≡◌, ℕ, List, ◌++◌, Option, Some, None, codes, decimal, length, min}
use Rattle.np_verdict.specs.Lines.{line_of}
use Rattle.np_verdict.specs.declared.refusal.Refusal.{Refusal}
use Rattle.np_verdict.specs.declared.refusal.Refusal.TheVariants as refusals
use Rattle.refusal_diagnoses.specs.declared.spot.Spot.{Spot}
use Rattle.refusal_diagnoses.specs.declared.spot.Spot.TheVariants as spots
use Rattle.source_places.specs.declared.place.Place.{Place}
use Rattle.source_places.specs.Places.{place_at}
use Rattle.source_places.specs.Shown.{shown, shown_lines}

-- a line and a column
abbrev pub place_text : Place → List ℕ
place_text place = codes ":" ++ decimal place.line ++ codes ":" ++ decimal place.column

-- the file, with the line and the column where there is a place, and then what np writes of the refusal
abbrev pub header : List ℕ → Option Place → Refusal → List ℕ
header file (Some place) refusal = shown file ++ place_text place ++ codes ": " ++ line_of refusal
header file None refusal = shown file ++ codes ": " ++ line_of refusal

-- A refusal is told at a place, if it has one: behind what np writes of it stand lines, as they are shown.
pub record IsToldThere (file : List ℕ) (place : Option Place) (refusal : Refusal) (text : List ℕ) : Type 0 where
  pub lines : List (List ℕ)
  pub is : text ≡ header file place refusal ++ shown_lines lines

-- words that np does not take are told by the first line of what np writes of them, and then lines, as they are shown
pub record IsUsage (text : List ℕ) : Type 0 where
  pub lines : List (List ℕ)
  pub is : text ≡ codes "np: 22 Usage\n" ++ shown_lines lines

-- ---- where a refusal is told

-- an offset of the source, a line of the history, where the mark is, or no place
abbrev pub spot_of : Refusal → Spot
spot_of (refusals.BadChar at) = spots.Offset at
spot_of (refusals.BadString at) = spots.Offset at
spot_of (refusals.BigNumber at) = spots.Offset at
spot_of (refusals.Syntax at) = spots.Offset at
spot_of (refusals.TooDeep at) = spots.Offset at
spot_of (refusals.Unbound at) = spots.Offset at
spot_of (refusals.SiteTwice at) = spots.Offset at
spot_of (refusals.TooManySites at) = spots.Offset at
spot_of (refusals.NotASite at) = spots.Offset at
spot_of (refusals.TypeFault fault) = spots.Offset fault.at
spot_of (refusals.LocationTest at) = spots.Offset at
spot_of (refusals.HistSyntax line) = spots.Line line
spot_of (refusals.NotARun index) = spots.Marked
spot_of (refusals.NotOurs index) = spots.Marked
spot_of (refusals.NoLine lines) = spots.Marked
spot_of (refusals.BudgetPast site) = spots.Marked
spot_of _ = spots.Nowhere

-- there is a place, and it is in this line
abbrev pub IsInLine : ℕ → Option Place → Type 0
IsInLine line (Some place) = place.line ≡ line
IsInLine line None = ⊥

-- the place of a spot of a text
abbrev pub IsPlaceOf : Spot → List ℕ → Option Place → Type 0
IsPlaceOf (spots.Offset at) bytes place = place ≡ Some (place_at bytes (min at (length bytes)))
IsPlaceOf (spots.Line line) bytes place = IsInLine line place
IsPlaceOf spots.Marked bytes place = Unit {0}
IsPlaceOf spots.Nowhere bytes place = place ≡ None

-- a refusal of a text is told where it is
pub record IsDiagnosis (file bytes : List ℕ) (refusal : Refusal) (text : List ℕ) : Type 0 where
  pub place : Option Place
  pub of : IsPlaceOf (spot_of refusal) bytes place
  pub told : IsToldThere file place refusal text
