-- What an event changes, as data, and the configuration that it leaves (docs/LANGUAGE.md, "Reductions").
use Rattle.std.specs.Prelude.{ℕ, List, [], ◌∷◌, ◌++◌, Option, None, Some}
use Rattle.std.specs.FinMap as map
use Rattle.std.specs.FinSet as set
use Rattle.np_syntax.specs.declared.value.Name.{Name}
use Rattle.np_syntax.specs.declared.value.Value.{Value}
use Rattle.np_syntax.specs.declared.event.Event.{Event}
use Rattle.np_syntax.specs.declared.event.Made.{Made}
use Rattle.np_syntax.specs.declared.event.Made.TheVariants as made
use Rattle.np_tables.specs.Names.{NameMap, NameSet}
use Rattle.np_calculus.specs.declared.config.Atom.{Atom}
use Rattle.np_calculus.specs.declared.config.Packet.{Packet}
use Rattle.np_calculus.specs.declared.config.Place.{Place}
use Rattle.np_calculus.specs.Config.{Config}

-- a name, and what stands under it afterwards, if anything
abbrev pub Write : Type 0 → Type 0
Write X = Name × Option X

abbrev pub put : {X : Type 0} → Name → X → Write X
put name x = (name, Some x)

abbrev pub cut : {X : Type 0} → Name → Write X
cut name = (name, None)

-- a table after one write, and after several in order
abbrev pub rewritten : {X : Type 0} → NameMap X → Name → Option X → NameMap X
rewritten table name (Some x) = map.insert table name x
rewritten table name None = map.remove table name

abbrev pub written : {X : Type 0} → NameMap X → List (Write X) → NameMap X
written table [] = table
written table (w ∷ ws) = written (rewritten table w.0 w.1) ws

-- what an event writes, and the value that it says; the names that it makes stand in the event itself
pub record Change : Type 0 where
  pub places : List (Write Place)
  pub atoms : List (Write Atom)
  pub packets : List (Write Packet)
  pub said : Option Value

-- nothing changes: a row tells what does
abbrev pub still : Change
still = record { places = []; atoms = []; packets = []; said = None }

-- the names that are born after an event
abbrev pub with_made : NameSet → Made → NameSet
with_made born made.Nothing = born
with_made born (made.One m) = set.insert born m
with_made born (made.Two m n) = set.insert (set.insert born m) n

abbrev pub with_said : List (ℕ × Value) → ℕ → Option Value → List (ℕ × Value)
with_said said site None = said
with_said said site (Some v) = said ++ (site, v) ∷ []

-- the configuration that an event with this change leaves
abbrev pub effect : Config → Event → Change → Config
effect c e d = record c {
  places = written c.places d.places;
  atoms = written c.atoms d.atoms;
  packets = written c.packets d.packets;
  born = with_made c.born e.made;
  said = with_said c.said e.site d.said;
}
