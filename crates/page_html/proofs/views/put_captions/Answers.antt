use Rattle.std.specs.Prelude.{codes}
use Rattle.markup_text.specs.declared.words.Tag.TheVariants as tags
use Rattle.markup_text.specs.Markup.{closing}
use Rattle.page_html.specs.Parts.{classed}
use Rattle.page_html.specs.Views.{caption}
use Rattle.page_html.proofs.Written.{wrote_three}
use Rattle.page_html.proofs.views.put_captions.Goals as goal

pub returns : goal.returns
returns c =
    wrote_three c.args.text.now c.put_classed.new.text c.put_caption.new.text c.put_caption-2.new.text c.put_caption-3.new.text c.put_closing.new.text
    (classed tags.Paragraph (codes "tabs")) (caption (codes "show-high") (codes "The source")) (caption (codes "show-low") (codes "The sites"))
    (caption (codes "show-both") (codes "Both")) (closing tags.Paragraph) c.put_classed.ensures c.put_caption.ensures c.put_caption-2.ensures
    c.put_caption-3.ensures c.put_closing.ensures
