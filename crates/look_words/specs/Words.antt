-- What the command line asks for (docs/PICTURES.md, "Pictures").
use Rattle.std.specs.Prelude.{◌≤◌}
use Rattle.np_syntax.specs.declared.limits.TheConstants.{LARGEST_BUDGET}
use Rattle.look_words.specs.declared.words.Asked.{Asked}
use Rattle.look_words.specs.declared.words.Asked.TheVariants as asked

-- a run that is wanted has a budget
abbrev pub IsWanted : Asked → Type 0
IsWanted (asked.Work wanted) = wanted.budget ≤ LARGEST_BUDGET
IsWanted (asked.Page wanted) = wanted.budget ≤ LARGEST_BUDGET
IsWanted _ = Unit {0}
