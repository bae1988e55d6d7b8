use Rattle.std.proofs.Common.{[], ◌∷◌, ap}
use Rattle.text_writer.proofs.Writing.{same}
use Rattle.markup_text.specs.declared.words.AttributeName.TheVariants as names
use Rattle.markup_text.specs.declared.words.Tag.TheVariants as tags
use Rattle.markup_text.specs.Attributes.{attribute_text, number, words}
use Rattle.page_html.specs.Marks.{letter, mark, numbers}
use Rattle.page_html.specs.Tables.{own_word}
use Rattle.markup_text.proofs.Elements.{attribute-last, attribute-then, opening-written}
use Rattle.page_html.proofs.tables.put_opened_row.Goals as goal

pub returns : goal.returns
returns c =
    let row = c.args.row.now in
    let begun = c.open_tag.new.text in
    let after_1 = c.put_id.new.text in
    let attribute_1 = words names.Id (mark (letter c.args.level) c.args.number) in
    let after_2 = c.put_words_attribute.new.text in
    let attribute_2 = words names.Class (own_word row.own) in
    let after_3 = c.put_needs.new.text in
    let attribute_3 = words names.Needs (numbers row.needs) in
    let after_4 = c.put_number_attribute.new.text in
    let attribute_4 = number names.Twin row.twin in
    let after_5 = c.put_number_attribute-2.new.text in
    let attribute_5 = number names.Node row.node in
    opening-written c.args.text.now begun after_5 c.close_tag.new.text tags.TableRow (attribute_1 ∷ attribute_2 ∷ attribute_3 ∷ attribute_4 ∷ attribute_5 ∷ []) c.open_tag.ensures
    (attribute-then begun after_1 after_5 attribute_1 (attribute_2 ∷ attribute_3 ∷ attribute_4 ∷ attribute_5 ∷ []) (same begun after_1 _ _ c.put_id.ensures (ap (λ l. attribute_text (words names.Id (mark l c.args.number))) c.letter.ensures))
    (attribute-then after_1 after_2 after_5 attribute_2 (attribute_3 ∷ attribute_4 ∷ attribute_5 ∷ []) (same after_1 after_2 _ _ c.put_words_attribute.ensures (ap (λ l. attribute_text (words names.Class l)) c.own_word.ensures))
    (attribute-then after_2 after_3 after_5 attribute_3 (attribute_4 ∷ attribute_5 ∷ []) (same after_2 after_3 _ _ c.put_needs.ensures (ap (λ l. attribute_text (words names.Needs (numbers l))) c.as_slice.ensures))
    (attribute-then after_3 after_4 after_5 attribute_4 (attribute_5 ∷ []) c.put_number_attribute.ensures
    (attribute-last after_4 after_5 attribute_5 c.put_number_attribute-2.ensures)))))
    c.close_tag.ensures
