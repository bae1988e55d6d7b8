-- The columns of a picture, and who stands in them (docs/PICTURES.md, "Pictures").
use Rattle.std.specs.Prelude.{◌≡◌, ℕ, ◌<◌, List, length, Some, slice_get}
use Rattle.run_pictures.specs.declared.step.Step.{Step}
use Rattle.run_pictures.specs.declared.layout.Column.{Column}
use Rattle.run_pictures.specs.declared.layout.Mark.{Mark}

-- the column of a step: that of its site and of who acts
abbrev pub column_of : Step → Column
column_of step = record { site = step.event.site; agent = step.agent }

-- each column keeps its number
pub record Extends (old new : List Column) : Type 0 where
  pub kept : (k : ℕ) (c : Column) → slice_get old k ≡ Some c → slice_get new k ≡ Some c

-- there is a mark for each of the first steps, so many and no more, and it stands in the column of its step
pub record StandFor (columns : List Column) (marks : List Mark) (steps : List Step) (n : ℕ) : Type 0 where
  pub count : length marks ≡ n
  pub each : (k : ℕ) (mark : Mark) (step : Step) → slice_get marks k ≡ Some mark → slice_get steps k ≡ Some step
      → slice_get columns mark.column ≡ Some (column_of step)
