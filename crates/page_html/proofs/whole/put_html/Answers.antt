use Rattle.std.proofs.Common.{[], ◌∷◌, ap}
use Rattle.std.specs.Prelude.{codes}
use Rattle.text_writer.proofs.Writing.{same}
use Rattle.markup_text.specs.declared.words.AttributeName.TheVariants as names
use Rattle.markup_text.specs.declared.words.Tag.TheVariants as tags
use Rattle.markup_text.specs.Attributes.{words}
use Rattle.markup_text.specs.Markup.{closing, opening}
use Rattle.page_html.specs.Heads.{head_text}
use Rattle.page_html.specs.Pages.{body_text}
use Rattle.page_html.proofs.Written.{wrote_two}
use Rattle.page_html.proofs.whole.put_html.Goals as goal

pub returns : goal.returns
returns c =
    let page = c.args.page.now in
    let opened = c.put_opening_with.new.text in
    let headed = c.put_head.new.text in
    wrote_two c.args.text.now opened headed c.put_body.new.text c.put_closing.new.text (opening tags.Html (words names.Language (codes "en") ∷ []))
    (head_text page.title c.args.policy.now c.args.style.now) (body_text page c.args.script.now) (closing tags.Html)
    c.put_opening_with.ensures
    (same opened headed _ _ c.put_head.ensures (ap (λ l. head_text l c.args.policy.now c.args.style.now) c.as_slice.ensures))
    c.put_body.ensures c.put_closing.ensures
