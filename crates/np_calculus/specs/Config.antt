-- A configuration (docs/LANGUAGE.md, "Configurations").
use Rattle.std.specs.Prelude.{ℕ, List}
use Rattle.np_syntax.specs.declared.value.Value.{Value}
use Rattle.np_calculus.specs.declared.config.Atom.{Atom}
use Rattle.np_calculus.specs.declared.config.Packet.{Packet}
use Rattle.np_calculus.specs.declared.config.Place.{Place}
use Rattle.np_tables.specs.Names.{NameMap, NameSet}

pub record Config : Type 0 where
  -- the number of the program's sites
  pub sites : ℕ
  -- where each agent is
  pub places : NameMap Place
  -- the atoms by their marks
  pub atoms : NameMap Atom
  -- the packets under way, by their marks
  pub packets : NameMap Packet
  -- every name that was made
  pub born : NameSet
  -- what was printed, with the sites, in order
  pub said : List (ℕ × Value)
