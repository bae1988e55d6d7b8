use Rattle.std.proofs.Common.{◌++◌}
use Rattle.std.specs.Prelude.{codes}
use Rattle.markup_text.proofs.Escaping.{escaped-then}
use Rattle.picture_svg.specs.Elements.{reached}
use Rattle.picture_svg.proofs.elements.put_head.Goals as goal

pub returns : goal.returns
returns c =
    let left = reached (codes "M") c.args.head.left in
    let tip = reached (codes "L") c.args.head.tip in
    let right = reached (codes "L") c.args.head.right in
    let begun = c.args.text.now in
    let one = c.put_reached.new.text in
    let two = c.put_reached-2.new.text in
    let three = c.put_reached-3.new.text in
    escaped-then begun three c.put_escaped.new.text (left ++ tip ++ right) (codes "Z")
    (escaped-then begun two three (left ++ tip) right (escaped-then begun one two left tip c.put_reached.ensures c.put_reached-2.ensures) c.put_reached-3.ensures)
    c.put_escaped.ensures
