use Rattle.std.proofs.Common.{[], ◌∷◌}
use Rattle.std.specs.Prelude.{codes}
use Rattle.markup_text.specs.declared.words.AttributeName.TheVariants as names
use Rattle.markup_text.specs.declared.words.Tag.TheVariants as tags
use Rattle.markup_text.specs.Attributes.{words}
use Rattle.markup_text.proofs.Elements.{attribute-last, attribute-then, opening-written}
use Rattle.page_html.proofs.whole.put_opened_chosen.Goals as goal

pub returns : goal.returns
returns c =
    let begun = c.open_tag.new.text in
    let after_1 = c.put_words_attribute.new.text in
    let attribute_1 = words names.Class (codes "chosen") in
    let after_2 = c.put_words_attribute-2.new.text in
    let attribute_2 = words names.Live (codes "polite") in
    opening-written c.args.text.now begun after_2 c.close_tag.new.text tags.Section (attribute_1 ∷ attribute_2 ∷ []) c.open_tag.ensures
    (attribute-then begun after_1 after_2 attribute_1 (attribute_2 ∷ []) c.put_words_attribute.ensures
    (attribute-last after_1 after_2 attribute_2 c.put_words_attribute-2.ensures))
    c.close_tag.ensures
