use Rattle.markup_text.specs.declared.words.Tag.TheVariants as tags
use Rattle.markup_text.specs.Markup.{closing}
use Rattle.page_html.specs.declared.whole.TheConstants.{FOOT, HINT}
use Rattle.page_html.specs.Pages.{header_text, main_text, tables_text}
use Rattle.page_html.specs.Parts.{bare, plain}
use Rattle.page_html.proofs.Written.{wrote_five}
use Rattle.page_html.proofs.whole.put_body.Goals as goal

pub returns : goal.returns
returns c =
    let page = c.args.page.now in
    wrote_five c.args.text.now c.put_opening.new.text c.put_header.new.text c.put_main.new.text c.put_tables.new.text c.put_plain.new.text c.put_plain-2.new.text c.put_closing.new.text
    (bare tags.Body) (header_text page) (main_text page HINT.now) (tables_text page) (plain tags.Footer FOOT.now) (plain tags.Script c.args.script.now) (closing tags.Body)
    c.put_opening.ensures c.put_header.ensures c.put_main.ensures c.put_tables.ensures c.put_plain.ensures c.put_plain-2.ensures c.put_closing.ensures
