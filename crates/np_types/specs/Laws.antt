-- What holds of subtyping (docs/LANGUAGE.md, "Types").
use Rattle.std.specs.Prelude.{◌≡◌, true}
use Rattle.np_syntax.specs.declared.types.Cap.{Cap}
use Rattle.np_syntax.specs.declared.types.Ty.{Ty, out-Ty}
use Rattle.np_syntax.specs.declared.types.Ty as ty
use Rattle.np_subtyping.specs.Sub.{sub, sub_at, chans_at}
use Rattle.np_types.specs.Widths.{nodes, printable}

-- the forms of two types decide as the table says, and channel types by its lines
pub record FollowsTable : Type 0 where
  pub forms : (s t : Ty) → sub s t ≡ sub_at (out-Ty s) (out-Ty t)
  pub channels : (c d : Cap) (s t : Ty) → sub (ty.Chan c s) (ty.Chan d t) ≡ chans_at c s d t

abbrev pub Reflexive : Type 0
Reflexive = (t : Ty) → sub t t ≡ true

abbrev pub Transitive : Type 0
Transitive = (s t u : Ty) → sub s t ≡ true → sub t u ≡ true → sub s u ≡ true

abbrev pub Antisymmetric : Type 0
Antisymmetric = (s t : Ty) → sub s t ≡ true → sub t s ≡ true → s ≡ t

abbrev pub KeepsNodes : Type 0
KeepsNodes = (s t : Ty) → sub s t ≡ true → nodes s ≡ nodes t

abbrev pub KeepsPrintable : Type 0
KeepsPrintable = (s t : Ty) → sub s t ≡ true → printable t ≡ true → printable s ≡ true
