-- What contracts see of texts that are files.
use Rattle.std.specs.Prelude.{ℕ, Bool}

pub record FileState : Type 0 where
  pub begun : Bool
  -- the one count of every name
  pub faults : ℕ
  -- how many bytes were read since the last beginning
  pub taken : ℕ
  pub begins : ℕ
