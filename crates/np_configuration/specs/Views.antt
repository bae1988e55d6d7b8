-- What an event says of its names, and the environments in which patterns are bound (docs/LANGUAGE.md, "Reductions").
use Rattle.std.specs.Prelude.{Bool, not, Option, Some, is_some}
use Rattle.np_syntax.specs.declared.value.Name.{Name}
use Rattle.np_syntax.specs.declared.event.Event.{Event}
use Rattle.np_syntax.specs.Options.{◌>>=◌, ◌>>◌, need}
use Rattle.np_tables.specs.Names.{same_name}
use Rattle.np_calculus.specs.Config.{Config}
use Rattle.np_calculus.specs.Reductions.{none_made, no_other, one_made, two_made}
use Rattle.np_calculus.specs.Seen.{fresh, offered}
use Rattle.np_calculus.specs.declared.config.Atom.{Atom}
use Rattle.np_syntax.specs.declared.expression.Expr.{Expr}
use Rattle.np_syntax.specs.declared.pattern.Pat.{Pat}
use Rattle.np_eval.specs.Eval.{Env, bind, eval}

-- it makes no name and takes no output
abbrev pub is_alone : Event → Bool
is_alone e = is_some (none_made e.made >> no_other e.other)

-- the one name that it makes, which is new, where it takes no output
abbrev pub one_new : Config → Event → Option Name
one_new c e = do
  m ← one_made e.made
  no_other e.other
  fresh c m
  Some m

-- the two names that it makes, which are new and differ, where it takes no output
abbrev pub two_new : Config → Event → Option (Name × Name)
two_new c e = do
  (m, n) ← two_made e.made
  no_other e.other
  need (not (same_name m n))
  fresh c m
  fresh c n
  Some (m, n)

-- the environment in which a pattern is bound to the value of an expression
abbrev pub bound_to : Pat → Expr → Env → Option Env
bound_to pat e env = do
  v ← eval e env
  bind pat v env

-- the one in which an atom's pattern is bound to the value that the atom of a mark offers on a channel
abbrev pub taken_by : Config → Name → Atom → Name → Pat → Option Env
taken_by c mark a chan pat = do
  v ← offered c mark a.agent chan
  bind pat v a.env
