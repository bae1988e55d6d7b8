use Rattle.std.proofs.Common.{◌+◌, ◌++◌}
use Rattle.page_html.specs.Parts.{counted}
use Rattle.page_html.specs.Tables.{row_text}
use Rattle.page_html.proofs.Counted.{counted-end, counted-on}
use Rattle.page_html.proofs.tables.put_rows.Goals as goal

pub loop-index-preserved : goal.loop-index-preserved
loop-index-preserved c =
    let first = c.args.text.now in
    let rows = c.args.rows.now in
    let item = c.index-rows-index in
    counted-on (row_text c.args.level) first c.loop-index.text c.put_row.new.text (first.text ++ counted (row_text c.args.level) 1 rows) rows c.loop-index.index item.result c.loop-index-test.true item.is
    c.put_row.ensures c.loop-index.invariant

pub returns : goal.returns
returns c =
    let first = c.args.text.now in
    let rows = c.args.rows.now in
    counted-end (row_text c.args.level) first c.loop-index.text (first.text ++ counted (row_text c.args.level) 1 rows) rows c.loop-index.index (c.loop-index.index + 1) c.loop-index-test.false c.loop-index.invariant
