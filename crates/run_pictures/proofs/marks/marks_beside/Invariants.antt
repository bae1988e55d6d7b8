use Rattle.std.proofs.Common.{◌≡◌, map}
use Rattle.run_pictures.specs.Columns.{StandFor}
use Rattle.run_pictures.specs.Rows.{rows_by}
use Rattle.run_pictures.proofs.marks.marks_beside.Given as goal

-- the first steps have their marks, each as far down as its twin
abbrev pub invariant-loop-step : goal.invariant-loop-step
invariant-loop-step l = record {
  counts : l.place ≡ l.step-index;
  stand : StandFor l.columns.list l.marks l.steps l.step-index;
  rows : map (λ mark. mark.y) l.marks ≡ rows_by l.below l.twins l.step-index;
}
