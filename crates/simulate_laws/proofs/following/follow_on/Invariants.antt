use Rattle.std.proofs.Common.{◌≡◌, drop}
use Rattle.np_calculus.specs.Reductions.{run}
use Rattle.simulate_laws.proofs.following.follow_on.Given as goal

-- what is left leads on from here as all did from the start
abbrev pub invariant-loop-event : goal.invariant-loop-event
invariant-loop-event l = run l.reached (drop l.event-index l.events) ≡ run l.fn.reached l.events
