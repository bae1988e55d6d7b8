use Rattle.std.proofs.Common.{◌≡◌, ◌++◌, false, map, drop}
use Rattle.std.specs.List.{flat_map}
use Rattle.markup_text.specs.Markup.{element_text}
use Rattle.picture_svg.specs.Elements.{flight_element}
use Rattle.picture_svg.proofs.svg.put_flights.Given as goal

-- the elements so far, and those still to come
abbrev pub invariant-loop-flight : goal.invariant-loop-flight
invariant-loop-flight l = l.text.failed ≡ false → (l.initial.text.failed ≡ false)
    × (l.text.text ++ flat_map element_text (map flight_element (drop l.flight-index l.flights)) ≡ l.initial.text.text ++ flat_map element_text (map flight_element l.flights))
