use Rattle.std.proofs.Common.{take}
use Rattle.std.specs.List.{AllByRecursion}
use Rattle.history_text.specs.Histories.{Fits}
use Rattle.history_text.proofs.laws.law_fits.Given as goal

abbrev pub invariant-loop-event : goal.invariant-loop-event
invariant-loop-event l = AllByRecursion Fits (take l.event-index l.events)
