use Rattle.std.proofs.Common.{map}
use Rattle.np_example_files.proofs.Texts.{NumberedSoFar}
use Rattle.np_example_files.proofs.pieces.add_numbered.Given as goal

abbrev pub invariant-loop-word : goal.invariant-loop-word
invariant-loop-word l =
    (goal.iterator-loop-word).can_next l.word-iterator ×
    (goal.iterator-loop-word).is_finite l.word-iterator ×
    NumberedSoFar l.initial.bytes.items l.bytes.items (map (λ word. word.now) l.yielded)
