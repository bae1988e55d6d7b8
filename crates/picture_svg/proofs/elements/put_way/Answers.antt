use Rattle.std.proofs.Common.{◌++◌}
use Rattle.std.specs.Prelude.{codes}
use Rattle.markup_text.specs.declared.words.AttributeName.TheVariants as names
use Rattle.markup_text.proofs.Escaping.{escaped-then, value-written}
use Rattle.picture_svg.specs.Elements.{head_part, reached, way}
use Rattle.picture_svg.proofs.elements.put_way.Goals as goal

pub returns : goal.returns
returns c =
    let flight = c.args.flight.now in
    let start = reached (codes "M") flight.start in
    let end = reached (codes "L") flight.end in
    let begun = c.open_value.new.text in
    let one = c.put_reached.new.text in
    let two = c.put_reached-2.new.text in
    let three = c.put_head_part.new.text in
    value-written c.args.text.now begun three c.close_value.new.text names.Data (way flight) c.open_value.ensures
    (escaped-then begun two three (start ++ end) (head_part flight.head) (escaped-then begun one two start end c.put_reached.ensures c.put_reached-2.ensures) c.put_head_part.ensures)
    c.close_value.ensures
