use Rattle.std.proofs.Common.{◌≡◌, string_bytes}
use Rattle.np_example_files.specs.Pieces.{tree}
use Rattle.np_example_files.proofs.pieces.tree_of.Given as goal

abbrev pub invariant-loop-level : goal.invariant-loop-level
invariant-loop-level l = string_bytes l.tree ≡ tree l.leaf l._level
