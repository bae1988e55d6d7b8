use Rattle.std.proofs.Common.{◌≡◌, ◌++◌, false, map, drop}
use Rattle.std.specs.List.{flat_map}
use Rattle.markup_text.specs.Markup.{element_text}
use Rattle.picture_svg.specs.Elements.{shape_element}
use Rattle.picture_svg.proofs.svg.put_shapes.Given as goal

-- the elements so far, and those still to come
abbrev pub invariant-loop-shape : goal.invariant-loop-shape
invariant-loop-shape l = l.text.failed ≡ false → (l.initial.text.failed ≡ false)
    × (l.text.text ++ flat_map element_text (map shape_element (drop l.shape-index l.shapes)) ≡ l.initial.text.text ++ flat_map element_text (map shape_element l.shapes))
