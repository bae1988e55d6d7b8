use Rattle.std.specs.Prelude.{codes}
use Rattle.markup_text.specs.declared.words.Tag.TheVariants as tags
use Rattle.markup_text.specs.Markup.{closing, opening}
use Rattle.page_html.specs.Pages.{chosen_attributes}
use Rattle.page_html.specs.Parts.{leaf, plain}
use Rattle.page_html.proofs.Written.{wrote_two}
use Rattle.page_html.proofs.whole.put_chosen.Goals as goal

pub returns : goal.returns
returns c =
    wrote_two c.args.text.now c.put_opened_chosen.new.text c.put_plain.new.text c.put_leaf.new.text c.put_closing.new.text (opening tags.Section chosen_attributes)
    (plain tags.Subheading (codes "Chosen event")) (leaf tags.Part (codes "told") c.args.hint.now) (closing tags.Section)
    c.put_opened_chosen.ensures c.put_plain.ensures c.put_leaf.ensures c.put_closing.ensures
