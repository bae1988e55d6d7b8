use Rattle.run_pictures.specs.Columns.{Extends}
use Rattle.run_pictures.proofs.stays.stays_of.Given as goal

-- each column keeps its number
abbrev pub invariant-loop-step : goal.invariant-loop-step
invariant-loop-step l = Extends l.fn.columns.list l.columns.list
