-- Values that fit types, and the types of an environment (docs/LANGUAGE.md, "Types" and "Reductions").
use Rattle.std.specs.Prelude.{◌≡◌, ℕ, true, Option, None, Some}
use Rattle.std.specs.FinMap as table
use Rattle.np_syntax.specs.declared.value.Name.{Name}
use Rattle.np_syntax.specs.declared.value.Value.{Value}
use Rattle.np_syntax.specs.declared.types.Cap.{Cap}
use Rattle.np_syntax.specs.declared.types.Ty.{Ty}
use Rattle.np_types.specs.Sub.{writes, sub}
use Rattle.np_types.specs.Worlds.{World, kind}
use Rattle.np_types.specs.Least.{Types}
use Rattle.np_eval.specs.Eval.{Env}

-- the value's least type is below the type
pub record Fits (w : World) (v : Value) (t : Ty) : Type 0 where
  pub type : Ty
  pub is : kind w v ≡ Some type
  pub below : sub type t ≡ true

-- sending the value on the channel is an output without a fault: the channel has a type, which may be written, and the
-- value fits what it carries
pub record Sent (w : World) (n : Name) (v : Value) : Type 0 where
  pub own : Cap × Ty
  pub carries : w.chan n ≡ Some own
  pub may_write : writes own.0 ≡ true
  pub fits : Fits w v own.1

-- a value and its least type, or neither
abbrev pub LeastOf : World → Option Value → Option Ty → Type 0
LeastOf w None None = Unit {0}
LeastOf w None (Some t) = ⊥
LeastOf w (Some v) None = ⊥
LeastOf w (Some v) (Some t) = kind w v ≡ Some t

-- the binders of an environment have the least types of their values, and no other binder has a type
pub record LeastTypes (w : World) (env : Env) (types : Types) : Type 0 where
  pub each : (x : ℕ) → LeastOf w (table.get env x) (table.get types x)
