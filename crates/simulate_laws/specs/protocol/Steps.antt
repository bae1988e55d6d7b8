-- What a step takes from a collection of things and gives to it. The order of things does not matter.
use Rattle.std.specs.Prelude.{List, ◌++◌}
use Rattle.std.specs.List.Sorted.{IsPermutation}

pub record Step {A : Type 0} (before after take give : List A) : Type 0 where
  -- what stays
  pub rest : List A
  pub taken : IsPermutation before (take ++ rest)
  pub given : IsPermutation after (give ++ rest)
