-- The calls of texts and sinks in memory, which fail by number.
use Rattle.std.specs.Prelude.{ℕ, ◌+◌, ◌-◌, ◌^◌, ◌==◌, Bool, List, min}
use Rattle.std.specs.List.{list_any}

abbrev pub is_listed : ℕ → List ℕ → Bool
is_listed call failing = list_any (λ listed. listed == call) failing

-- a count that rises by one, up to the greatest `u64`
abbrev pub one_more : ℕ → ℕ
one_more count = min (count + 1) (2 ^ 64 - 1)
