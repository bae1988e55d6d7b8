use Rattle.std.proofs.Common.{◌≡◌, take}
use Rattle.run_save.specs.following.Following.{events_at}
use Rattle.site_crew.proofs.past.events_at.Given as goal

abbrev pub invariant-loop-event : goal.invariant-loop-event
invariant-loop-event l = record { count : l.count ≡ events_at l.site (take l.event-index l.events) }
