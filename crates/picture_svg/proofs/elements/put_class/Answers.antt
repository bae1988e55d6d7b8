use Rattle.std.proofs.Common.{◌++◌}
use Rattle.markup_text.specs.declared.words.AttributeName.TheVariants as names
use Rattle.markup_text.proofs.Escaping.{escaped-same, escaped-then, value-written}
use Rattle.picture_svg.specs.Elements.{hue_word, look_word, pale_word}
use Rattle.picture_svg.proofs.elements.put_class.Goals as goal

pub returns : goal.returns
returns c =
    let look = look_word c.args.look in
    let hue = hue_word c.args.hue in
    let pale = pale_word c.args.pale in
    let begun = c.open_value.new.text in
    let looks = c.put_escaped.new.text in
    let hues = c.put_hue.new.text in
    let pales = c.put_pale.new.text in
    value-written c.args.text.now begun pales c.close_value.new.text names.Class (look ++ hue ++ pale) c.open_value.ensures
    (escaped-then begun hues pales (look ++ hue) pale
    (escaped-then begun looks hues look hue (escaped-same begun looks c.look_word.result.now look c.put_escaped.ensures c.look_word.ensures) c.put_hue.ensures)
    c.put_pale.ensures)
    c.close_value.ensures
