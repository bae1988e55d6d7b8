use Rattle.std.proofs.Common.{ap, ◌∙◌}
use Rattle.std.specs.Prelude.{codes}
use Rattle.text_writer.proofs.Writing.{same}
use Rattle.markup_text.specs.declared.words.Tag.TheVariants as tags
use Rattle.markup_text.specs.Markup.{closing}
use Rattle.page_html.specs.Pages.{chosen_text}
use Rattle.page_html.specs.Parts.{classed}
use Rattle.page_html.specs.Sources.{prints_text, source_text}
use Rattle.page_html.proofs.Written.{wrote_three}
use Rattle.page_html.proofs.whole.put_left.Goals as goal

pub returns : goal.returns
returns c =
    let page = c.args.page.now in
    let first = c.put_classed.new.text in
    let second = c.put_source.new.text in
    let third = c.put_prints.new.text in
    wrote_three c.args.text.now first second third c.put_chosen.new.text c.put_closing.new.text (classed tags.Part (codes "left"))
    (source_text page.lines) (prints_text page.printed page.end) (chosen_text c.args.hint.now) (closing tags.Part) c.put_classed.ensures
    (same first second _ _ c.put_source.ensures (ap source_text c.as_slice.ensures))
    (same second third _ _ c.put_prints.ensures (ap (λ l. prints_text l c.as_slice-3.result.now) c.as_slice-2.ensures ∙ ap (prints_text page.printed) c.as_slice-3.ensures))
    c.put_chosen.ensures c.put_closing.ensures
