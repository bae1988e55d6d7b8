use Rattle.std.proofs.Common.{◌++◌}
use Rattle.std.specs.Prelude.{codes}
use Rattle.text_writer.proofs.Writing.{then}
use Rattle.markup_text.specs.declared.words.Tag.TheVariants as tags
use Rattle.markup_text.specs.Markup.{closing, opening}
use Rattle.page_html.specs.Tables.{cells, row_attributes}
use Rattle.page_html.proofs.Written.{wrote_one}
use Rattle.page_html.proofs.tables.put_row.Goals as goal

pub returns : goal.returns
returns c =
    let row = c.args.row.now in
    let opened = opening tags.TableRow (row_attributes c.args.level c.args.number row) in
    let inner = cells c.args.level c.args.number row in
    let closed = closing tags.TableRow in
    let first = c.args.text.now in
    let behind = c.put_closing.new.text in
    then first behind c.put.new.self (opened ++ inner ++ closed) (codes "\n")
    (wrote_one first c.put_opened_row.new.text c.put_cells.new.text behind opened inner closed c.put_opened_row.ensures c.put_cells.ensures c.put_closing.ensures) c.put.ensures
