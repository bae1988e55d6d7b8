use Rattle.std.proofs.Common.{ap}
use Rattle.std.specs.Prelude.{codes}
use Rattle.text_writer.proofs.Writing.{same}
use Rattle.markup_text.specs.declared.words.Tag.TheVariants as tags
use Rattle.markup_text.specs.Escapes.{escaped}
use Rattle.page_html.specs.Parts.{plain}
use Rattle.page_html.specs.Tables.{number_link}
use Rattle.page_html.proofs.Written.{wrote_in_three}
use Rattle.page_html.proofs.tables.put_code.Goals as goal

pub returns : goal.returns
returns c =
    let row = c.args.row.now in
    let spaced = c.put_escaped.new.text in
    wrote_in_three c.args.text.now c.put_number_link.new.text spaced c.put_plain.new.text (number_link (codes "s") row.line) (escaped (codes " ")) (plain tags.Code row.code)
    c.put_number_link.ensures c.put_escaped.ensures (same spaced c.put_plain.new.text _ _ c.put_plain.ensures (ap (plain tags.Code) c.as_slice.ensures))
