-- What a picture shows (docs/PICTURES.md, "Pictures").
use Rattle.std.specs.Prelude.{◌≡◌, ℕ, List, length, map}
use Rattle.std.specs.List.{AllByRecursion}
use Rattle.run_pictures.specs.declared.step.Step.{Step}
use Rattle.run_pictures.specs.declared.layout.Layout.{Layout}
use Rattle.run_pictures.specs.declared.layout.Mark.{Mark}
use Rattle.run_pictures.specs.declared.marks.TheConstants.{TOP}
use Rattle.run_pictures.specs.Arrows.{IsArrow}
use Rattle.run_pictures.specs.Columns.{StandFor}
use Rattle.run_pictures.specs.Posts.{IsPost}
use Rattle.run_pictures.specs.Rows.{Rises, rows_by}

-- Each event has just one mark, by its number, in the column of its site and of who acts. Each mark is below those of the
-- events before it. Each arrow joins a Send with a Land, or a Depart with an Arrive, and that of a Post goes to a column of the agent
-- to which that goes.
pub record IsLayout (steps : List Step) (layout : Layout) : Type 0 where
  pub stand : StandFor layout.columns layout.marks steps (length steps)
  pub order : Rises TOP (map (λ mark. mark.y) layout.marks)
  pub arrows : AllByRecursion (IsArrow steps) layout.arrows
  pub posts : AllByRecursion (IsPost layout.columns steps) layout.posts

-- The same, where each mark stands as far down as its twin among other marks.
pub record IsBeside (steps : List Step) (below : List Mark) (twins : List ℕ) (layout : Layout) : Type 0 where
  pub stand : StandFor layout.columns layout.marks steps (length steps)
  pub rows : map (λ mark. mark.y) layout.marks ≡ rows_by below twins (length steps)
  pub arrows : AllByRecursion (IsArrow steps) layout.arrows
  pub posts : AllByRecursion (IsPost layout.columns steps) layout.posts
