use Rattle.std.proofs.Common.{◌++◌}
use Rattle.std.specs.Prelude.{codes}
use Rattle.text_writer.proofs.Writing.{finished}
use Rattle.page_html.specs.Pages.{html_text, text_of}
use Rattle.page_html.proofs.Written.{wrote_in_three}
use Rattle.page_html.proofs.whole.text_of.Goals as goal

pub returns : goal.returns
returns c =
    let first = c.new-text.result in
    let page = c.args.page.now in
    let policy = c.args.policy.now in
    let style = c.args.style.now in
    let script = c.args.script.now in
    finished first c.put-2.new.self (text_of page policy style script) c.finish.result c.new-text.ensures
    (wrote_in_three first c.put.new.self c.put_html.new.text c.put-2.new.self (codes "<!DOCTYPE html>\n") (html_text page policy style script) (codes "\n")
    c.put.ensures c.put_html.ensures c.put-2.ensures)
    c.finish.ensures
