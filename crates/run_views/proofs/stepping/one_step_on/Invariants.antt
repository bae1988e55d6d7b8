use Rattle.std.proofs.Common.{◌≡◌, ◌++◌, drop}
use Rattle.np_calculus.specs.Reductions.{run}
use Rattle.run_views.specs.OneStep.{one_step}
use Rattle.run_views.proofs.stepping.one_step_on.Given as goal

-- what is left leads on from here as all does from the start, and its list is what is still to come
abbrev pub invariant-loop-event : goal.invariant-loop-event
invariant-loop-event l = record {
  leads : run l.reached (drop l.event-index l.high) ≡ run l.fn.reached l.high;
  made : l.made ++ one_step l.reached (drop l.event-index l.high) ≡ one_step l.fn.reached l.high;
}
