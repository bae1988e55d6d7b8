use Rattle.std.proofs.Common.{◌≡◌, ◌++◌, map}
use Rattle.np_example_files.specs.Pieces.{with_line_feeds}
use Rattle.np_example_files.proofs.pieces.add_lines.Given as goal

abbrev pub invariant-loop-line : goal.invariant-loop-line
invariant-loop-line l = l.bytes.items ≡ l.initial.bytes.items ++ with_line_feeds (map (λ line. line.now) l.yielded)
