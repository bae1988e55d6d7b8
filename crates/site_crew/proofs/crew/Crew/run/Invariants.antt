use Rattle.std.proofs.Common.{◌≡◌, true}
use Rattle.site_crew.specs.Crews.{AddsLater, GoesOn}
use Rattle.site_crew.proofs.Running.{room_left}
use Rattle.site_crew.proofs.crew.Crew.run.Given as goal

abbrev pub invariant-loop : goal.invariant-loop
invariant-loop g l = record { on : GoesOn l.fn.self l.self; later : AddsLater l.fn.self l.self; failed : l.fn.self.failed ≡ true → l.self ≡ l.fn.self }

abbrev pub decreases-loop : goal.decreases-loop
decreases-loop g l = room_left l.self
