use Rattle.markup_text.specs.declared.words.Tag.TheVariants as tags
use Rattle.markup_text.specs.Markup.{closing}
use Rattle.page_html.specs.Pages.{left_text}
use Rattle.page_html.specs.Parts.{bare}
use Rattle.page_html.specs.Views.{views_text}
use Rattle.page_html.proofs.Written.{wrote_two}
use Rattle.page_html.proofs.whole.put_main.Goals as goal

pub returns : goal.returns
returns c =
    let page = c.args.page.now in
    wrote_two c.args.text.now c.put_opening.new.text c.put_left.new.text c.put_views.new.text c.put_closing.new.text (bare tags.Main) (left_text page c.args.hint.now) (views_text page)
    (closing tags.Main) c.put_opening.ensures c.put_left.ensures c.put_views.ensures c.put_closing.ensures
