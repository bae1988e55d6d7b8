use Rattle.std.proofs.Common.{ap}
use Rattle.std.specs.Prelude.{codes}
use Rattle.text_writer.proofs.Writing.{same}
use Rattle.markup_text.specs.declared.words.Tag.TheVariants as tags
use Rattle.markup_text.specs.Markup.{closing}
use Rattle.page_html.specs.Parts.{classed, leaf}
use Rattle.page_html.proofs.Written.{wrote_two}
use Rattle.page_html.proofs.views.put_pane.Goals as goal

pub returns : goal.returns
returns c =
    let view = c.args.view.now in
    let opened = c.put_classed.new.text in
    let noted = c.put_leaf.new.text in
    let pictured = c.put.new.self in
    wrote_two c.args.text.now opened noted pictured c.put_closing.new.text (classed tags.Part c.args.class.now)
    (leaf tags.Paragraph (codes "note") view.note) view.picture (closing tags.Part) c.put_classed.ensures
    (same opened noted _ _ c.put_leaf.ensures (ap (leaf tags.Paragraph (codes "note")) c.as_slice.ensures))
    (same noted pictured _ _ c.put.ensures c.as_slice-2.ensures) c.put_closing.ensures
