-- The text of a picture (docs/PICTURES.md, "Pictures").
use Rattle.std.specs.Prelude.{ℕ, ◌+◌, List, [], ◌∷◌, ◌++◌, map}
use Rattle.std.specs.List.{flat_map}
use Rattle.markup_text.specs.declared.words.Tag.TheVariants as tags
use Rattle.markup_text.specs.Markup.{Element, Markup, element_text, in_a_row}
use Rattle.picture_svg.specs.declared.shapes.Drawing.{Drawing}
use Rattle.picture_svg.specs.Elements.{flight_element, root_attributes, shape_element, spot_element}

abbrev pub style_element : List ℕ → Element
style_element style = record { tag = tags.Style; attributes = []; content = style }

-- the elements of a picture: the style, what stands below, the arrows, those of posts, the marks, and what is said beside them
abbrev pub elements : List ℕ → Drawing → List Element
elements style d =
    style_element style ∷ map shape_element d.ground
    ++ map flight_element d.flights ++ map flight_element d.posts ++ map spot_element d.spots ++ map shape_element d.words

-- the same, one after the other
abbrev pub body_text : List ℕ → Drawing → List ℕ
body_text style d = flat_map element_text (elements style d)

-- a picture as markup: one element, in which those of its shapes stand, and then what follows
abbrev pub svg_then : ℕ → List ℕ → Drawing → Markup → Markup
svg_then left style d rest = Markup.element tags.Svg (root_attributes left d.width d.height) (in_a_row (elements style d)) rest

abbrev pub svg : ℕ → List ℕ → Drawing → Markup
svg left style d = svg_then left style d Markup.nothing

-- two pictures side by side in one
abbrev pub svg_of_both : List ℕ → Drawing → Drawing → Markup
svg_of_both style first second =
    Markup.element tags.Svg (root_attributes 0 (first.width + second.width) second.height)
    (svg_then 0 style first (svg first.width style second)) Markup.nothing
