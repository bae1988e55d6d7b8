-- What a value or a type has in it: a letter its channel and its value, a map of places its pairs, a type of channels what may be done
-- with them and the type that they carry (docs/LANGUAGE.md, "Values and evaluation" and "Types").
use Rattle.std.specs.Prelude.{Option, None, Some, List}
use Rattle.np_syntax.specs.declared.value.Name.{Name}
use Rattle.np_syntax.specs.declared.value.Value.{Value, Value-F}
use Rattle.np_syntax.specs.declared.types.Cap.{Cap}
use Rattle.np_syntax.specs.declared.types.Ty.{Ty, Ty-F}

abbrev pub as_letter : Value-F Value → Option (Name × Value)
as_letter (Value-F.Letter c v) = Some (c, v)
as_letter _ = None

abbrev pub as_places : Value-F Value → Option (List (Name × Name))
as_places (Value-F.Places ps) = Some ps
as_places _ = None

abbrev pub as_channel : Ty-F Ty → Option (Cap × Ty)
as_channel (Ty-F.Chan c t) = Some (c, t)
as_channel _ = None
