use Rattle.std.proofs.Common.{◌≡◌, ◌≤◌, ◌+◌, ◌-◌, length}
use Rattle.source_places.specs.Places.{begun}
use Rattle.source_places.proofs.place.column_in.Given as goal

-- the characters so far, and those still to come
abbrev pub invariant-loop : goal.invariant-loop
invariant-loop l = record {
  few : l.column ≤ l.index + 1;
  is : l.column + begun (length l.line - l.index) l.rest l.left ≡ 1 + begun (length l.line) l.line l.before;
}
