use Rattle.std.proofs.Common.{ap}
use Rattle.std.specs.Prelude.{codes}
use Rattle.text_writer.proofs.Writing.{same}
use Rattle.markup_text.specs.declared.words.Tag.TheVariants as tags
use Rattle.page_html.specs.Parts.{plain}
use Rattle.page_html.specs.Tables.{other_level}
use Rattle.page_html.proofs.Written.{wrote_in_six}
use Rattle.page_html.proofs.tables.put_head_cells.Goals as goal

pub returns : goal.returns
returns c =
    let cell = plain tags.HeadCell in
    let fourth = c.put_plain-4.new.text in
    let fifth = c.put_plain-5.new.text in
    wrote_in_six c.args.text.now c.put_plain.new.text c.put_plain-2.new.text c.put_plain-3.new.text fourth fifth c.put_plain-6.new.text
    (cell (codes "Event")) (cell (codes "What happens")) (cell (codes "Site")) (cell (codes "Source")) (cell (other_level c.args.level)) (cell (codes "History"))
    c.put_plain.ensures c.put_plain-2.ensures c.put_plain-3.ensures c.put_plain-4.ensures (same fourth fifth _ _ c.put_plain-5.ensures (ap cell c.other_level.ensures)) c.put_plain-6.ensures
