-- The picture of a run (docs/PICTURES.md, "Pictures").
use Rattle.std.specs.Prelude.{◌≡◌, ℕ, List, ◌++◌, codes, map}
use Rattle.markup_text.specs.Markup.{markup_text}
use Rattle.run_pictures.specs.declared.step.Step.{Step}
use Rattle.run_pictures.specs.declared.layout.Layout.{Layout}
use Rattle.run_pictures.specs.Layouts.{IsBeside, IsLayout}
use Rattle.picture_svg.specs.declared.shapes.Drawing.{Drawing}
use Rattle.picture_svg.specs.Placed.{joined, joining, places, posted, standing}
use Rattle.picture_svg.specs.Svg.{svg, svg_of_both}

-- The drawing shows a layout: each event stands in it just once, in the order of the run, where its mark is; and each arrow runs
-- from the mark of the one event to that of the other, and that of a post from its mark to the column of the agent to which it goes.
pub record IsDrawn (layout : Layout) (drawing : Drawing) : Type 0 where
  pub middles : List ℕ
  pub spots : map standing drawing.spots ≡ places middles 0 layout.marks
  pub flights : map joining drawing.flights ≡ map (joined middles layout.marks) layout.arrows
  pub posts : map joining drawing.posts ≡ map (posted middles layout.marks) layout.posts

-- The text is markup: a drawing of a layout of the steps.
pub record IsPicture (steps : List Step) (text : List ℕ) : Type 0 where
  pub layout : Layout
  pub laid : IsLayout steps layout
  pub drawing : Drawing
  pub drawn : IsDrawn layout drawing
  pub style : List ℕ
  pub written : text ≡ markup_text (svg 0 style drawing) ++ codes "\n"

-- The text is markup: two drawings side by side, of the steps of the source and of those of the sites. Each step of the source
-- stands as far down as the step of the sites that is its twin.
pub record IsPictureOfBoth (high low : List Step) (twins : List ℕ) (text : List ℕ) : Type 0 where
  pub below : Layout
  pub low_laid : IsLayout low below
  pub above : Layout
  pub high_laid : IsBeside high below.marks twins above
  pub first : Drawing
  pub first_drawn : IsDrawn above first
  pub second : Drawing
  pub second_drawn : IsDrawn below second
  pub style : List ℕ
  pub written : text ≡ markup_text (svg_of_both style first second) ++ codes "\n"
