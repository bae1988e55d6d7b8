-- What a number picks (docs/SCHEDULES.md, "What is drawn").
use Rattle.std.specs.Prelude.{ℕ, ◌%◌, Option, List, length, slice_get}

-- the element at which a number stops that counts round and round
abbrev pub pick : {X : Type 0} → List X → ℕ → Option X
pick xs n = slice_get xs (n % length xs)
