use Rattle.std.proofs.Common.{ap}
use Rattle.std.specs.Prelude.{codes}
use Rattle.text_writer.proofs.Writing.{same}
use Rattle.markup_text.specs.declared.words.Tag.TheVariants as tags
use Rattle.markup_text.specs.Escapes.{escaped}
use Rattle.markup_text.specs.Markup.{closing}
use Rattle.page_html.specs.Parts.{classed}
use Rattle.page_html.specs.Tables.{who_text}
use Rattle.page_html.proofs.Written.{wrote_three}
use Rattle.page_html.proofs.tables.put_say.Goals as goal

pub returns : goal.returns
returns c =
    let row = c.args.row.now in
    let spaced = c.put_escaped.new.text in
    let said = c.put_escaped-2.new.text in
    wrote_three c.args.text.now c.put_classed.new.text c.put_who.new.text spaced said c.put_closing.new.text (classed tags.Cell (codes "say")) (who_text row) (escaped (codes " ")) (escaped row.words)
    (closing tags.Cell) c.put_classed.ensures c.put_who.ensures c.put_escaped.ensures (same spaced said _ _ c.put_escaped-2.ensures (ap escaped c.as_slice.ensures)) c.put_closing.ensures
