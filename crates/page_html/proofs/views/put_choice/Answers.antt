use Rattle.markup_text.specs.declared.words.Tag.TheVariants as tags
use Rattle.markup_text.proofs.Elements.{single-written}
use Rattle.page_html.specs.Views.{choice_attributes}
use Rattle.page_html.proofs.views.put_choice.Goals as goal

pub returns : goal.returns
returns c =
    single-written c.args.text.now c.open_tag.new.text c.put_choice_attributes.new.text c.close_single.new.text tags.Input (choice_attributes c.args.id.now)
    c.open_tag.ensures c.put_choice_attributes.ensures c.close_single.ensures
