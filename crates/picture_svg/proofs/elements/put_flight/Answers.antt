use Rattle.std.proofs.Common.{[], ◌∷◌}
use Rattle.markup_text.specs.declared.words.AttributeName.TheVariants as names
use Rattle.markup_text.specs.declared.words.Tag.TheVariants as tags
use Rattle.markup_text.specs.Attributes.{number}
use Rattle.markup_text.proofs.Elements.{attribute-last, attribute-then, element-written, nothing-written, opening-written}
use Rattle.picture_svg.specs.Elements.{class_of, flight_element, way_of}
use Rattle.picture_svg.proofs.elements.put_flight.Goals as goal

pub returns : goal.returns
returns c =
    let flight = c.args.flight.now in
    let class = class_of flight.look flight.hue flight.pale in
    let event = number names.Event flight.to in
    let first = c.args.text.now in
    let begun = c.open_tag.new.text in
    let classed = c.put_class.new.text in
    let numbered = c.put_number_attribute.new.text in
    let led = c.put_way.new.text in
    let opened = c.close_tag.new.text in
    element-written first opened opened c.put_closing.new.text (flight_element flight)
    (opening-written first begun led opened tags.Path (class ∷ event ∷ way_of flight ∷ []) c.open_tag.ensures
    (attribute-then begun classed led class (event ∷ way_of flight ∷ []) c.put_class.ensures
    (attribute-then classed numbered led event (way_of flight ∷ []) c.put_number_attribute.ensures (attribute-last numbered led (way_of flight) c.put_way.ensures)))
    c.close_tag.ensures)
    (nothing-written opened) c.put_closing.ensures
