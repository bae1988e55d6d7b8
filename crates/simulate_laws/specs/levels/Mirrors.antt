-- What stands under marks of the low level stands under marks of the high level.
use Rattle.std.specs.Prelude.{◌≡◌, Option, Some}
use Rattle.np_syntax.specs.declared.value.Name.{Name}

-- each mark of the low level stands for one of the high level: what the low level has of the high one is there under that mark, and
-- nothing else is
pub record Mirrors {X : Type 0} (stands_for : Name → Name) (low high : Name → Option X) : Type 0 where
  pub up : (m : Name) (x : X) → low m ≡ Some x → high (stands_for m) ≡ Some x
  pub down : (k : Name) (x : X) → high k ≡ Some x → (m : Name) × (stands_for m ≡ k) × (low m ≡ Some x)
