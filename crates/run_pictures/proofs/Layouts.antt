-- A layout of its parts.
use Rattle.std.proofs.Common.{◌≡◌, ℕ, List, length, map, arith, subst, sym}
use Rattle.std.specs.List.{AllByRecursion}
use Rattle.run_pictures.specs.declared.step.Step.{Step}
use Rattle.run_pictures.specs.declared.layout.Column.{Column}
use Rattle.run_pictures.specs.declared.layout.Layout.{Layout}
use Rattle.run_pictures.specs.declared.layout.Mark.{Mark}
use Rattle.run_pictures.specs.declared.marks.TheConstants.{TOP}
use Rattle.run_pictures.specs.Arrows.{IsArrow}
use Rattle.run_pictures.specs.Columns.{Extends, StandFor}
use Rattle.run_pictures.specs.Layouts.{IsBeside, IsLayout}
use Rattle.run_pictures.specs.Posts.{IsPost}
use Rattle.run_pictures.specs.Rows.{Rises, middles, rows_by}
use Rattle.run_pictures.proofs.Growing.{stand-on}
use Rattle.run_pictures.proofs.Rows.{middles-rise}

pub laid-out : (steps : List Step) (layout : Layout) (columns : List Column) → StandFor columns layout.marks steps (length steps) → Extends columns layout.columns
    → map (λ (mark : Mark). mark.y) layout.marks ≡ middles TOP steps → AllByRecursion (IsArrow steps) layout.arrows
    → AllByRecursion (IsPost layout.columns steps) layout.posts → IsLayout steps layout
laid-out steps layout columns stand extends rows arrows posts = record {
  stand = stand-on columns layout.columns layout.marks steps (length steps) stand extends;
  order = subst (Rises TOP) (sym rows) (middles-rise TOP TOP steps (omega arith));
  arrows = arrows;
  posts = posts;
}

pub laid-beside : (steps : List Step) (below : List Mark) (twins : List ℕ) (layout : Layout) (columns : List Column) → StandFor columns layout.marks steps (length steps)
    → Extends columns layout.columns → map (λ (mark : Mark). mark.y) layout.marks ≡ rows_by below twins (length steps) → AllByRecursion (IsArrow steps) layout.arrows
    → AllByRecursion (IsPost layout.columns steps) layout.posts → IsBeside steps below twins layout
laid-beside steps below twins layout columns stand extends same arrows posts = record {
  stand = stand-on columns layout.columns layout.marks steps (length steps) stand extends;
  rows = same;
  arrows = arrows;
  posts = posts;
}
