use Rattle.std.proofs.Common.{◌≡◌, ◌+◌, ◌≤◌, length}
use Rattle.history_text.specs.Histories.{lines}
use Rattle.history_text.specs.Reading.{after, events_from}
use Rattle.history_text.proofs.read.events_to_end.Given as goal

abbrev pub invariant-lines : goal.invariant-lines
invariant-lines l = record {
  reads : events_from l.fn.format l.fn.number (lines l.fn.bytes) ≡ after l.events (events_from l.fn.format l.number (lines l.rest));
  within : l.number + length l.rest ≤ l.fn.number + length l.fn.bytes;
  room : length l.events + length l.rest ≤ length l.fn.bytes;
}

abbrev pub decreases-lines : goal.decreases-lines
decreases-lines l = length l.rest
