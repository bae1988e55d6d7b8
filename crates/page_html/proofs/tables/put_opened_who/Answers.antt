use Rattle.std.proofs.Common.{[], ◌∷◌, ◌++◌}
use Rattle.std.specs.Prelude.{codes}
use Rattle.markup_text.specs.declared.words.AttributeName.TheVariants as names
use Rattle.markup_text.specs.declared.words.Tag.TheVariants as tags
use Rattle.markup_text.specs.Attributes.{words}
use Rattle.picture_svg.specs.Elements.{hue_word}
use Rattle.markup_text.proofs.Elements.{attribute-last, opening-written}
use Rattle.page_html.proofs.tables.put_opened_who.Goals as goal

pub returns : goal.returns
returns c =
    let begun = c.open_tag.new.text in
    let after_1 = c.put_who_class.new.text in
    let attribute_1 = words names.Class (codes "who" ++ hue_word c.args.hue) in
    opening-written c.args.text.now begun after_1 c.close_tag.new.text tags.Strong (attribute_1 ∷ []) c.open_tag.ensures
    (attribute-last begun after_1 attribute_1 c.put_who_class.ensures)
    c.close_tag.ensures
