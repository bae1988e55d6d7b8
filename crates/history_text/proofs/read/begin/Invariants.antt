use Rattle.std.proofs.Common.{◌≡◌, ◌+◌, ◌≤◌, length}
use Rattle.history_text.specs.Histories.{lines}
use Rattle.history_text.specs.Reading.{history_from}
use Rattle.history_text.proofs.read.begin.Given as goal

abbrev pub invariant-lines : goal.invariant-lines
invariant-lines l = record {
  reads : history_from 0 (lines l.bytes) ≡ history_from l.number (lines l.rest);
  within : l.number + length l.rest ≤ length l.bytes;
}

abbrev pub decreases-lines : goal.decreases-lines
decreases-lines l = length l.rest
