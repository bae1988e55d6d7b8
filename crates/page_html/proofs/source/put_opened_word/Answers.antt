use Rattle.std.proofs.Common.{[], ◌∷◌}
use Rattle.markup_text.specs.declared.words.AttributeName.TheVariants as names
use Rattle.markup_text.specs.declared.words.Tag.TheVariants as tags
use Rattle.markup_text.specs.Attributes.{number, words}
use Rattle.page_html.specs.Sources.{class_word}
use Rattle.markup_text.proofs.Elements.{attribute-last, attribute-then, opening-written}
use Rattle.page_html.proofs.source.put_opened_word.Goals as goal

pub returns : goal.returns
returns c =
    let dye = c.args.word.now.dye in
    let begun = c.open_tag.new.text in
    let after_1 = c.put_class.new.text in
    let attribute_1 = words names.Class (class_word dye.class) in
    let after_2 = c.put_number_attribute.new.text in
    let attribute_2 = number names.Node dye.node in
    opening-written c.args.text.now begun after_2 c.close_tag.new.text tags.Span (attribute_1 ∷ attribute_2 ∷ []) c.open_tag.ensures
    (attribute-then begun after_1 after_2 attribute_1 (attribute_2 ∷ []) c.put_class.ensures
    (attribute-last after_1 after_2 attribute_2 c.put_number_attribute.ensures))
    c.close_tag.ensures
