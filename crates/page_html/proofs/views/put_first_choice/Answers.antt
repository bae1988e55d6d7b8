use Rattle.std.proofs.Common.{[], ◌∷◌, ◌++◌}
use Rattle.std.specs.Prelude.{codes}
use Rattle.markup_text.specs.declared.words.AttributeName.TheVariants as names
use Rattle.markup_text.specs.declared.words.Tag.TheVariants as tags
use Rattle.markup_text.specs.Attributes.{words}
use Rattle.markup_text.proofs.Elements.{attribute-behind, single-written}
use Rattle.page_html.specs.Views.{choice_attributes}
use Rattle.page_html.proofs.views.put_first_choice.Goals as goal

pub returns : goal.returns
returns c =
    let attributes = choice_attributes c.args.id.now in
    let checked = words names.Checked (codes "checked") in
    let begun = c.open_tag.new.text in
    let chosen = c.put_words_attribute.new.text in
    single-written c.args.text.now begun chosen c.close_single.new.text tags.Input (attributes ++ checked ∷ []) c.open_tag.ensures
    (attribute-behind begun c.put_choice_attributes.new.text chosen attributes checked c.put_choice_attributes.ensures c.put_words_attribute.ensures) c.close_single.ensures
