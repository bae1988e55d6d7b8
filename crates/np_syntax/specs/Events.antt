-- What events make, and which of them print.
use Rattle.std.specs.Prelude.{Bool, true, false, List, [], ◌∷◌}
use Rattle.np_syntax.specs.declared.value.Name.{Name}
use Rattle.np_syntax.specs.declared.event.Kind.{Kind}
use Rattle.np_syntax.specs.declared.event.Kind.TheVariants as kind
use Rattle.np_syntax.specs.declared.event.Made.{Made}
use Rattle.np_syntax.specs.declared.event.Made.TheVariants as made

-- whether an event of this kind prints a value
abbrev pub is_print : Kind → Bool
is_print kind.Print = true
is_print _ = false

-- the names that an event makes, in order: an agent's name before the mark
abbrev pub made_names : Made → List Name
made_names made.Nothing = []
made_names (made.One m) = m ∷ []
made_names (made.Two m n) = m ∷ n ∷ []
