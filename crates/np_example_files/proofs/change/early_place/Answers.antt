use Rattle.np_example_files.proofs.Departures.{early_found, not_early}
use Rattle.np_example_files.proofs.Places.{item}
use Rattle.np_example_files.proofs.change.early_place.Goals as goal

pub returns-in-Arrive : goal.returns-in-Arrive
returns-in-Arrive c =
    early_found c.args.events.now c.args.place c.in_ok-arrival.arrival.now _
    (item _ _ c.in_ok-arrival.arrival c.in_ok-arrival.ensures.lookup) c.in-Arrive.is c.first_departure.ensures

pub returns-in_default : goal.returns-in_default
returns-in_default c = not_early c.args.events.now c.args.place c.in_ok-arrival.arrival.now (item _ _ c.in_ok-arrival.arrival c.in_ok-arrival.ensures.lookup) c.in_default.not-Arrive
