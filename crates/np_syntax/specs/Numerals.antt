-- The number that decimal digits write.
use Rattle.std.specs.Prelude.{ℕ, ◌+◌, ◌*◌, ◌-◌, nat_le, if◌then◌else◌, List, fold, Option, Some, None}

abbrev pub value : List ℕ → ℕ
value = fold (λ number digit. 10 * number + (digit - 48)) 0

-- the same, if it is no larger than this number
abbrev pub value_within : ℕ → List ℕ → Option ℕ
value_within most digits = if nat_le (value digits) most then Some (value digits) else None
