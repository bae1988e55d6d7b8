use Rattle.std.proofs.Common.{[], ◌∷◌}
use Rattle.markup_text.specs.Attributes.{words}
use Rattle.markup_text.proofs.Elements.{attribute-last, opening-written}
use Rattle.page_html.proofs.parts.put_opening_with.Goals as goal

pub returns : goal.returns
returns c =
    let begun = c.open_tag.new.text in
    let after_1 = c.put_words_attribute.new.text in
    let attribute_1 = words c.args.name c.args.bytes.now in
    opening-written c.args.text.now begun after_1 c.close_tag.new.text c.args.tag (attribute_1 ∷ []) c.open_tag.ensures
    (attribute-last begun after_1 attribute_1 c.put_words_attribute.ensures)
    c.close_tag.ensures
