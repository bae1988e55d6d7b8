use Rattle.std.proofs.Common.{◌++◌, map}
use Rattle.std.specs.List.{flat_map}
use Rattle.markup_text.specs.Markup.{element_text}
use Rattle.picture_svg.specs.Elements.{spot_element}
use Rattle.picture_svg.proofs.Rows.{row-more}
use Rattle.picture_svg.proofs.svg.put_spots.Goals as goal

pub loop-spot-preserved : goal.loop-spot-preserved
loop-spot-preserved c =
    let first = c.args.text.now in
    let spots = c.args.spots.now in
    let all = first.text ++ flat_map element_text (map spot_element spots) in
    row-more spot_element first c.loop-spot.text c.put_spot.new.text all spots c.loop-spot.spot-index _ c.loop-spot-test.true c.put_spot.ensures c.loop-spot.invariant
