-- What an operation asks of its operands (docs/LANGUAGE.md, "Types").
use Rattle.std.specs.Prelude.{ℕ, Bool, Ok}
use Rattle.np_syntax.specs.declared.types.Ty.{Ty}
use Rattle.np_syntax.specs.declared.types.Ty as ty
use Rattle.np_syntax.specs.declared.expression.Op.{Op}
use Rattle.np_syntax.specs.declared.expression.Op.TheVariants as op
use Rattle.np_types.specs.declared.fault.Rule.{Rule}
use Rattle.np_types.specs.declared.fault.Rule.TheVariants as rule
use Rattle.np_subtyping.specs.Sub.{TyLayer, is_int, reads, writes}
use Rattle.np_syntax.specs.Parts.{as_channel}
use Rattle.np_syntax.specs.Results.{◌>>=◌, ◌>>◌}
use Rattle.np_types.specs.Checks.{Check, ensure, want}
use Rattle.np_types.specs.Least.{basic, same_basic}

abbrev pub takes_first : Op → TyLayer → Bool
takes_first op.Equal s = basic s
takes_first _ s = is_int s

abbrev pub first_rule : Op → Rule
first_rule op.Equal = rule.NotComparable
first_rule _ = rule.NotInt

abbrev pub takes_second : Op → TyLayer → TyLayer → Bool
takes_second op.Equal s t = same_basic s t
takes_second _ s t = is_int t

abbrev pub second_rule : Op → Rule
second_rule op.Equal = rule.Mismatch
second_rule _ = rule.NotInt

abbrev pub type_of : Op → Ty
type_of op.Equal = ty.Bool
type_of op.Less = ty.Bool
type_of _ = ty.Int

-- what may be written on a channel of this type
abbrev pub written_on : TyLayer → ℕ → Check Ty
written_on t at = do
  k ← want (as_channel t) at rule.NotChannel
  ensure (writes k.0) at rule.NoOutput
  Ok k.1

-- what may be read on a channel of this type
abbrev pub read_on : TyLayer → ℕ → Check Ty
read_on t at = do
  k ← want (as_channel t) at rule.NotChannel
  ensure (reads k.0) at rule.NoInput
  Ok k.1
