use Rattle.np_example_files.specs.Changes.{FirstDeparture}
use Rattle.np_example_files.proofs.change.first_departure.Given as goal

abbrev pub invariant-loop-at : goal.invariant-loop-at
invariant-loop-at l = FirstDeparture l.events l.agent l.at l.departure
