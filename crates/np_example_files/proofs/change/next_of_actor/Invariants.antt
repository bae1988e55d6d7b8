use Rattle.np_example_files.proofs.Places.{NonePassed}
use Rattle.np_example_files.proofs.change.next_of_actor.Given as goal

abbrev pub invariant-loop-ahead : goal.invariant-loop-ahead
invariant-loop-ahead l = NonePassed l.events l.place l.ahead
