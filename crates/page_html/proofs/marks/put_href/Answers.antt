use Rattle.std.proofs.Common.{◌++◌}
use Rattle.std.specs.Prelude.{codes, decimal}
use Rattle.markup_text.specs.declared.words.AttributeName.TheVariants as names
use Rattle.markup_text.proofs.Escaping.{escaped-then, value-written}
use Rattle.page_html.proofs.marks.put_href.Goals as goal

pub returns : goal.returns
returns c =
    let letter = c.args.letter.now in
    let number = decimal c.args.number in
    let begun = c.open_value.new.text in
    let local = c.put_escaped.new.text in
    let lettered = c.put_escaped-2.new.text in
    let numbered = c.put_digits.new.text in
    value-written c.args.text.now begun numbered c.close_value.new.text names.Href (codes "#" ++ letter ++ number) c.open_value.ensures
    (escaped-then begun lettered numbered (codes "#" ++ letter) number (escaped-then begun local lettered (codes "#") letter c.put_escaped.ensures c.put_escaped-2.ensures) c.put_digits.ensures)
    c.close_value.ensures
