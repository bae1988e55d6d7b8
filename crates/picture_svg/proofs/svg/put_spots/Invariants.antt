use Rattle.std.proofs.Common.{◌≡◌, ◌++◌, false, map, drop}
use Rattle.std.specs.List.{flat_map}
use Rattle.markup_text.specs.Markup.{element_text}
use Rattle.picture_svg.specs.Elements.{spot_element}
use Rattle.picture_svg.proofs.svg.put_spots.Given as goal

-- the elements so far, and those still to come
abbrev pub invariant-loop-spot : goal.invariant-loop-spot
invariant-loop-spot l = l.text.failed ≡ false → (l.initial.text.failed ≡ false)
    × (l.text.text ++ flat_map element_text (map spot_element (drop l.spot-index l.spots)) ≡ l.initial.text.text ++ flat_map element_text (map spot_element l.spots))
