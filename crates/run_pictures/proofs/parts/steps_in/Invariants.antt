use Rattle.std.proofs.Common.{◌≡◌, ◌++◌, drop}
use Rattle.run_pictures.specs.Parts.{part_from, part_of}
use Rattle.run_pictures.proofs.parts.steps_in.Given as goal

-- the steps so far, and those still to come
abbrev pub invariant-loop-step : goal.invariant-loop-step
invariant-loop-step l = record {
  counts : l.place ≡ l.step-index;
  made : l.made ++ part_from l.part l.step-index (drop l.step-index l.all) ≡ part_of l.part l.all;
}
