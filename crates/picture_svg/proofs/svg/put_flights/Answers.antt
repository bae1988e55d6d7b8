use Rattle.std.proofs.Common.{◌++◌, map}
use Rattle.std.specs.List.{flat_map}
use Rattle.markup_text.specs.Markup.{element_text}
use Rattle.picture_svg.specs.Elements.{flight_element}
use Rattle.picture_svg.proofs.Rows.{row-more}
use Rattle.picture_svg.proofs.svg.put_flights.Goals as goal

pub loop-flight-preserved : goal.loop-flight-preserved
loop-flight-preserved c =
    let first = c.args.text.now in
    let flights = c.args.flights.now in
    let all = first.text ++ flat_map element_text (map flight_element flights) in
    row-more flight_element first c.loop-flight.text c.put_flight.new.text all flights c.loop-flight.flight-index _ c.loop-flight-test.true c.put_flight.ensures c.loop-flight.invariant
