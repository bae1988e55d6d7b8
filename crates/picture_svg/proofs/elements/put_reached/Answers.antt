use Rattle.std.proofs.Common.{◌++◌}
use Rattle.std.specs.Prelude.{codes, decimal}
use Rattle.markup_text.proofs.Escaping.{escaped-then}
use Rattle.picture_svg.proofs.elements.put_reached.Goals as goal

pub returns : goal.returns
returns c =
    let letter = c.args.letter.now in
    let x = decimal c.args.at.x in
    let y = decimal c.args.at.y in
    let begun = c.args.text.now in
    let lettered = c.put_escaped.new.text in
    let across = c.put_digits.new.text in
    let between = c.put_escaped-2.new.text in
    let down = c.put_digits-2.new.text in
    escaped-then begun between down (letter ++ x ++ codes " ") y
    (escaped-then begun across between (letter ++ x) (codes " ") (escaped-then begun lettered across letter x c.put_escaped.ensures c.put_digits.ensures) c.put_escaped-2.ensures)
    c.put_digits-2.ensures
