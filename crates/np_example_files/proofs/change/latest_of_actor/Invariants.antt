use Rattle.np_example_files.specs.Changes.{Latest}
use Rattle.np_example_files.proofs.change.latest_of_actor.Given as goal

abbrev pub invariant-loop-at : goal.invariant-loop-at
invariant-loop-at l = Latest l.events l.actor l.at l.latest
