use Rattle.std.proofs.Common.{[], ◌∷◌}
use Rattle.markup_text.specs.declared.words.AttributeName.TheVariants as names
use Rattle.markup_text.specs.declared.words.Tag.TheVariants as tags
use Rattle.markup_text.specs.Attributes.{words}
use Rattle.page_html.specs.Marks.{target}
use Rattle.markup_text.proofs.Elements.{attribute-last, opening-written}
use Rattle.page_html.proofs.parts.put_opened_link.Goals as goal

pub returns : goal.returns
returns c =
    let begun = c.open_tag.new.text in
    let after_1 = c.put_href.new.text in
    let attribute_1 = words names.Href (target c.args.letter.now c.args.number) in
    opening-written c.args.text.now begun after_1 c.close_tag.new.text tags.Link (attribute_1 ∷ []) c.open_tag.ensures
    (attribute-last begun after_1 attribute_1 c.put_href.ensures)
    c.close_tag.ensures
