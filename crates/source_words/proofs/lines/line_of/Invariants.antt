use Rattle.std.proofs.Common.{◌≡◌, ◌++◌, ◌-◌, ◌≤◌, take}
use Rattle.std.specs.List.{flat_map}
use Rattle.source_words.specs.declared.word.Word.{Word}
use Rattle.source_words.proofs.lines.line_of.Given as goal

-- the words so far
abbrev pub invariant-words : goal.invariant-words
invariant-words l = record {
  within : l.at ≤ l.end;
  are : take l.start l.source ++ flat_map (λ (word : Word). word.text) l.words ≡ take l.at l.source;
}

abbrev pub decreases-words : goal.decreases-words
decreases-words l = l.end - l.at
