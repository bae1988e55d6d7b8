use Rattle.std.proofs.Common.{◌≡◌, ◌≤◌, take}
use Rattle.source_words.specs.Words.{ended}
use Rattle.source_words.proofs.lines.cut.Given as goal

-- the lines so far end with a line feed each
abbrev pub invariant-loop-at : goal.invariant-loop-at
invariant-loop-at l = record {
  within : l.start ≤ l.at;
  are : ended l.lines ≡ take l.start l.source;
}
