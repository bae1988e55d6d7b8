use Rattle.std.proofs.Common.{ap}
use Rattle.std.specs.Prelude.{codes}
use Rattle.text_writer.proofs.Writing.{same}
use Rattle.markup_text.specs.declared.words.Tag.TheVariants as tags
use Rattle.markup_text.specs.Markup.{closing}
use Rattle.page_html.specs.Parts.{classed, plain}
use Rattle.page_html.specs.Tables.{wide_text}
use Rattle.page_html.proofs.Written.{wrote_two}
use Rattle.page_html.proofs.tables.put_table.Goals as goal

pub returns : goal.returns
returns c =
    let view = c.args.view.now in
    let opened = c.put_classed.new.text in
    let told = c.put_plain.new.text in
    let shown = c.put_wide.new.text in
    wrote_two c.args.text.now opened told shown c.put_closing.new.text (classed tags.Details (codes "events"))
    (plain tags.Summary view.summary) (wide_text c.args.level view.rows) (closing tags.Details) c.put_classed.ensures
    (same opened told _ _ c.put_plain.ensures (ap (plain tags.Summary) c.as_slice.ensures))
    (same told shown _ _ c.put_wide.ensures (ap (wide_text c.args.level) c.as_slice-2.ensures)) c.put_closing.ensures
