use Rattle.std.proofs.Common.{◌≡◌, length, map, min}
use Rattle.np_syntax.specs.declared.limits.TheConstants.{LARGEST_NUMBER}
use Rattle.np_example_files.specs.Examples.{said}
use Rattle.np_example_files.specs.Reading.{AreRead}
use Rattle.np_example_files.proofs.reader.examples_of.Given as goal

abbrev pub invariant-loop-line : goal.invariant-loop-line
invariant-loop-line g l =
    AreRead (map (λ line. line.now) l.yielded) (map said l.examples.items) × (l.number ≡ min (length l.yielded) LARGEST_NUMBER)
