use Rattle.std.proofs.Common.{◌+◌, ◌++◌}
use Rattle.page_html.specs.Parts.{counted}
use Rattle.page_html.specs.Sources.{line_text}
use Rattle.page_html.proofs.Counted.{counted-end, counted-on}
use Rattle.page_html.proofs.source.put_lines.Goals as goal

pub loop-index-preserved : goal.loop-index-preserved
loop-index-preserved c =
    let first = c.args.text.now in
    let lines = c.args.lines.now in
    let item = c.index-lines-index in
    counted-on line_text first c.loop-index.text c.put_line.new.text (first.text ++ counted line_text 1 lines) lines c.loop-index.index item.result c.loop-index-test.true item.is
    c.put_line.ensures c.loop-index.invariant

pub returns : goal.returns
returns c =
    let first = c.args.text.now in
    let lines = c.args.lines.now in
    counted-end line_text first c.loop-index.text (first.text ++ counted line_text 1 lines) lines c.loop-index.index (c.loop-index.index + 1) c.loop-index-test.false c.loop-index.invariant
