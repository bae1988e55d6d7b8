use Rattle.std.proofs.Common.{◌≡◌, ◌≤◌, ◌+◌, drop}
use Rattle.source_places.specs.Places.{behind_all, first_row}
use Rattle.source_places.proofs.place.row_at.Given as goal

-- behind the bytes so far, and then behind those still to come
abbrev pub invariant-loop-byte : goal.invariant-loop-byte
invariant-loop-byte l = record {
  seen : l.seen ≡ l.byte-index;
  start : l.row.start ≤ l.byte-index;
  line : l.row.line ≤ l.byte-index + 1;
  is : behind_all l.row l.byte-index (drop l.byte-index l.front) ≡ behind_all first_row 0 l.front;
}
