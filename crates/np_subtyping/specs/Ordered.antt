-- A type below another, or above it (docs/LANGUAGE.md, "Types").
use Rattle.std.specs.Prelude.{Bool, true, false, List}
use Rattle.np_syntax.specs.declared.types.Ty.{Ty}
use Rattle.np_subtyping.specs.Sub.{sub, sub_all}

abbrev pub Ordered : Bool → Ty → Ty → Bool
Ordered true a b = sub a b
Ordered false a b = sub b a

abbrev pub OrderedAll : Bool → List Ty → List Ty → Bool
OrderedAll true a b = sub_all a b
OrderedAll false a b = sub_all b a
