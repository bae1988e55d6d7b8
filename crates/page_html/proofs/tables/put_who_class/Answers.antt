use Rattle.std.proofs.Common.{◌++◌}
use Rattle.std.specs.Prelude.{codes}
use Rattle.markup_text.specs.declared.words.AttributeName.TheVariants as names
use Rattle.markup_text.proofs.Escaping.{escaped-then, value-written}
use Rattle.picture_svg.specs.Elements.{hue_word}
use Rattle.page_html.proofs.tables.put_who_class.Goals as goal

pub returns : goal.returns
returns c =
    let hue = hue_word c.args.hue in
    let begun = c.open_value.new.text in
    let named = c.put_escaped.new.text in
    let coloured = c.put_hue.new.text in
    value-written c.args.text.now begun coloured c.close_value.new.text names.Class (codes "who" ++ hue) c.open_value.ensures
    (escaped-then begun named coloured (codes "who") hue c.put_escaped.ensures c.put_hue.ensures) c.close_value.ensures
