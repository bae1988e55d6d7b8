use Rattle.std.proofs.Common.{[], ◌∷◌}
use Rattle.markup_text.specs.declared.words.AttributeName.TheVariants as names
use Rattle.markup_text.specs.declared.words.Tag.TheVariants as tags
use Rattle.markup_text.specs.Attributes.{words}
use Rattle.markup_text.proofs.Elements.{attribute-last, attribute-then, single-written}
use Rattle.page_html.proofs.head.put_meta.Goals as goal

pub returns : goal.returns
returns c =
    let name = words c.args.attribute c.args.name.now in
    let content = words names.Content c.args.content.now in
    let begun = c.open_tag.new.text in
    let named = c.put_words_attribute.new.text in
    let told = c.put_words_attribute-2.new.text in
    single-written c.args.text.now begun told c.close_single.new.text tags.Meta (name ∷ content ∷ []) c.open_tag.ensures
    (attribute-then begun named told name (content ∷ []) c.put_words_attribute.ensures (attribute-last named told content c.put_words_attribute-2.ensures)) c.close_single.ensures
