use Rattle.std.proofs.Common.{◌≡◌, ◌++◌}
use Rattle.np_example_files.specs.Pieces.{times}
use Rattle.np_example_files.proofs.pieces.add_times.Given as goal

abbrev pub invariant-loop-turn : goal.invariant-loop-turn
invariant-loop-turn l = l.bytes.items ≡ l.initial.bytes.items ++ times l.text l._turn
