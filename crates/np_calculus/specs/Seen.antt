-- Words of the table of reductions for a whole configuration, for laws and code (docs/LANGUAGE.md, "Reductions").
use Rattle.std.specs.Prelude.{ℕ, Bool, not, Option}
use Rattle.std.specs.FinMap as map
use Rattle.std.specs.FinSet as set
use Rattle.np_syntax.specs.declared.value.Name.{Name}
use Rattle.np_syntax.specs.declared.value.Value.{Value}
use Rattle.np_syntax.specs.declared.event.Event.{Event}
use Rattle.np_syntax.specs.declared.expression.Expr.{Expr}
use Rattle.np_syntax.specs.Options.{need}
use Rattle.np_calculus.specs.declared.config.Atom.{Atom}
use Rattle.np_calculus.specs.Config.{Config}
use Rattle.np_calculus.specs.Sight.{inside, sight, at_site}
use Rattle.np_calculus.specs.Reductions.{acting_in, site_in, offered_in}
use Rattle.np_eval.specs.Eval.{Env}

-- the acting atom of an event
abbrev pub acting : Config → Event → Option Atom
acting c e = acting_in (sight c.sites (inside c) e.site) e

-- an agent is at a site
abbrev pub is_at : Config → Name → ℕ → Bool
is_at c agent site = at_site (map.get c.places agent) site

-- the name is not born yet
abbrev pub fresh : Config → Name → Option (Unit {0})
fresh c m = need (not (set.contains c.born m))

-- the site of the program that an expression names
abbrev pub site_of : Config → Expr → Env → Option ℕ
site_of c e env = site_in c.sites e env

-- the value that the atom of a mark, in this agent, outputs on this channel
abbrev pub offered : Config → Name → Name → Name → Option Value
offered c mark agent chan = offered_in (map.get c.atoms) mark agent chan
