use Rattle.std.proofs.Common.{[], ◌∷◌}
use Rattle.std.specs.Prelude.{codes}
use Rattle.markup_text.specs.declared.words.AttributeName.TheVariants as names
use Rattle.markup_text.specs.Attributes.{words}
use Rattle.markup_text.proofs.Elements.{attribute-last, attribute-then}
use Rattle.page_html.proofs.views.put_choice_attributes.Goals as goal

pub returns : goal.returns
returns c =
    let kind = words names.Kind (codes "radio") in
    let name = words names.Name (codes "level") in
    let class = words names.Class (codes "tab") in
    let id = words names.Id c.args.id.now in
    let one = c.put_words_attribute.new.text in
    let two = c.put_words_attribute-2.new.text in
    let three = c.put_words_attribute-3.new.text in
    let last = c.put_words_attribute-4.new.text in
    attribute-then c.args.text.now one last kind (name ∷ class ∷ id ∷ []) c.put_words_attribute.ensures
    (attribute-then one two last name (class ∷ id ∷ []) c.put_words_attribute-2.ensures
    (attribute-then two three last class (id ∷ []) c.put_words_attribute-3.ensures (attribute-last three last id c.put_words_attribute-4.ensures)))
