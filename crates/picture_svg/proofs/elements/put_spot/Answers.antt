use Rattle.std.proofs.Common.{◌∷◌, ap}
use Rattle.std.specs.List.{flat_map}
use Rattle.text_writer.proofs.Writing.{same}
use Rattle.markup_text.specs.declared.words.AttributeName.TheVariants as names
use Rattle.markup_text.specs.declared.words.Tag.TheVariants as tags
use Rattle.markup_text.specs.Attributes.{attribute_text, number}
use Rattle.markup_text.proofs.Elements.{attribute-then, element-written, nothing-written, opening-written}
use Rattle.picture_svg.specs.Elements.{class_of, disc, radius_of, spot_element}
use Rattle.picture_svg.proofs.elements.put_spot.Goals as goal

pub returns : goal.returns
returns c =
    let spot = c.args.spot.now in
    let class = class_of spot.look spot.hue spot.pale in
    let event = number names.Event spot.event in
    let around = disc spot.at (radius_of spot.look) in
    let first = c.args.text.now in
    let begun = c.open_tag.new.text in
    let classed = c.put_class.new.text in
    let numbered = c.put_number_attribute.new.text in
    let placed = c.put_disc.new.text in
    let opened = c.close_tag.new.text in
    element-written first opened opened c.put_closing.new.text (spot_element spot)
    (opening-written first begun placed opened tags.Circle (class ∷ event ∷ around) c.open_tag.ensures
    (attribute-then begun classed placed class (event ∷ around) c.put_class.ensures
    (attribute-then classed numbered placed event around c.put_number_attribute.ensures
    (same numbered placed (flat_map attribute_text (disc spot.at c.radius_of.result)) (flat_map attribute_text around) c.put_disc.ensures (ap (λ r. flat_map attribute_text (disc spot.at r)) c.radius_of.ensures))))
    c.close_tag.ensures)
    (nothing-written opened) c.put_closing.ensures
