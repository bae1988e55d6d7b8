use Rattle.std.proofs.Common.{List, ap, map}
use Rattle.std.specs.List.{flat_map}
use Rattle.text_writer.proofs.Writing.{same}
use Rattle.markup_text.specs.Markup.{element_text}
use Rattle.picture_svg.specs.Elements.{flight_element, shape_element, spot_element}
use Rattle.picture_svg.specs.Svg.{style_element}
use Rattle.picture_svg.proofs.Rows.{body-written}
use Rattle.picture_svg.proofs.svg.put_body.Goals as goal

pub returns : goal.returns
returns c =
    let d = c.args.drawing.now in
    body-written c.args.text.now c.put_style.new.text c.put_shapes.new.text c.put_flights.new.text c.put_flights-2.new.text c.put_spots.new.text c.put_shapes-2.new.text
    (style_element c.args.style.now) (map shape_element d.ground) (map flight_element d.flights) (map flight_element d.posts) (map spot_element d.spots) (map shape_element d.words)
    c.put_style.ensures
    (same c.put_style.new.text c.put_shapes.new.text _ _ c.put_shapes.ensures (ap (λ l. flat_map element_text (map shape_element l)) c.as_slice.ensures))
    (same c.put_shapes.new.text c.put_flights.new.text _ _ c.put_flights.ensures (ap (λ l. flat_map element_text (map flight_element l)) c.as_slice-2.ensures))
    (same c.put_flights.new.text c.put_flights-2.new.text _ _ c.put_flights-2.ensures (ap (λ l. flat_map element_text (map flight_element l)) c.as_slice-3.ensures))
    (same c.put_flights-2.new.text c.put_spots.new.text _ _ c.put_spots.ensures (ap (λ l. flat_map element_text (map spot_element l)) c.as_slice-4.ensures))
    (same c.put_spots.new.text c.put_shapes-2.new.text _ _ c.put_shapes-2.ensures (ap (λ l. flat_map element_text (map shape_element l)) c.as_slice-5.ensures))
