use Rattle.std.proofs.Common.{◌≡◌, ◌++◌, ◌+◌, ◌*◌, ◌≤◌, map, drop}
use Rattle.run_pictures.specs.Columns.{StandFor}
use Rattle.run_pictures.specs.Rows.{middles}
use Rattle.run_pictures.specs.declared.marks.TheConstants.{TOP}
use Rattle.run_pictures.proofs.marks.marks_of.Given as goal

-- the first steps have their marks, and the rows of the others follow
abbrev pub invariant-loop-step : goal.invariant-loop-step
invariant-loop-step l = record {
  high : l.end ≤ TOP + 30 * l.step-index;
  stand : StandFor l.columns.list l.marks l.steps l.step-index;
  rows : map (λ mark. mark.y) l.marks ++ middles l.end (drop l.step-index l.steps) ≡ middles TOP l.steps;
}
