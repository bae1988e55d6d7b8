use Rattle.std.proofs.Common.{◌≡◌, drop, length}
use Rattle.np_types.specs.Covers.{cover_all}
use Rattle.np_types.specs.Told.{LeadsOn}
use Rattle.np_types.proofs.patterns.+cover.Given as goal

abbrev pub invariant-cover_parts-loop-i : goal.invariant-cover_parts-loop-i
invariant-cover_parts-loop-i l = record {
  lengths : length l.parts ≡ length l.types;
  covers : cover_all l.parts l.types l.at l.initial.env ≡ cover_all (drop l.i l.parts) (drop l.i l.types) l.at l.env;
  leads : LeadsOn l.initial.trail l.initial.env l.trail l.env;
}
