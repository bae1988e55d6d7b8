use Rattle.std.proofs.Common.{ap}
use Rattle.std.specs.Prelude.{codes}
use Rattle.text_writer.proofs.Writing.{same}
use Rattle.markup_text.specs.declared.words.Tag.TheVariants as tags
use Rattle.page_html.specs.Parts.{leaf, plain}
use Rattle.page_html.specs.Tables.{at_cell, number_cell, say_cell, twin_cell}
use Rattle.page_html.proofs.Written.{wrote_in_six}
use Rattle.page_html.proofs.tables.put_cells.Goals as goal

pub returns : goal.returns
returns c =
    let row = c.args.row.now in
    let said = c.put_say.new.text in
    let placed = c.put_plain.new.text in
    let twinned = c.put_twin.new.text in
    let last = c.put_leaf.new.text in
    wrote_in_six c.args.text.now c.put_number.new.text said placed c.put_at.new.text twinned last
    (number_cell c.args.level c.args.number) (say_cell row) (plain tags.Cell row.site) (at_cell row) (twin_cell c.args.level row.twin) (leaf tags.Cell (codes "raw") row.event)
    c.put_number.ensures c.put_say.ensures (same said placed _ _ c.put_plain.ensures (ap (plain tags.Cell) c.as_slice.ensures))
    c.put_at.ensures c.put_twin.ensures (same twinned last _ _ c.put_leaf.ensures (ap (leaf tags.Cell (codes "raw")) c.as_slice-2.ensures))
