use Rattle.std.proofs.Common.{◌∷◌, ap}
use Rattle.text_writer.proofs.Writing.{same}
use Rattle.markup_text.specs.Markup.{closing, tag_opened}
use Rattle.markup_text.proofs.Elements.{attribute-then, element-written, opening-written}
use Rattle.picture_svg.specs.Elements.{class_of, form_of, shape_element, tag_of}
use Rattle.picture_svg.proofs.elements.put_shape.Goals as goal

pub returns : goal.returns
returns c =
    let shape = c.args.shape.now in
    let class = class_of shape.look shape.hue shape.pale in
    let tag = tag_of shape.form in
    let begun = c.open_tag.new.text in
    let classed = c.put_class.new.text in
    let formed = c.put_form.new.text in
    let opened = c.close_tag.new.text in
    let filled = c.put_inner.new.text in
    let first = c.args.text.now in
    let last = c.put_closing.new.text in
    element-written first opened filled last (shape_element shape)
    (opening-written first begun formed opened tag (class ∷ form_of shape.form) (same first begun (tag_opened c.tag_of-tag.result) (tag_opened tag) c.open_tag.ensures (ap tag_opened c.tag_of-tag.ensures))
    (attribute-then begun classed formed class (form_of shape.form) c.put_class.ensures c.put_form.ensures) c.close_tag.ensures)
    c.put_inner.ensures
    (same filled last (closing c.tag_of-tag.result) (closing tag) c.put_closing.ensures (ap closing c.tag_of-tag.ensures))
