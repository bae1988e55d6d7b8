-- What the atoms of a site see of a configuration: all that their events depend on (docs/LANGUAGE.md, "Reductions").
use Rattle.std.specs.Prelude.{ℕ, Bool, false, Option, Some, nat_eq}
use Rattle.std.specs.FinMap as map
use Rattle.np_syntax.specs.declared.value.Name.{Name}
use Rattle.np_syntax.specs.Options.{◌>>=◌, ◌>>◌, need}
use Rattle.np_calculus.specs.declared.config.Atom.{Atom}
use Rattle.np_calculus.specs.declared.config.Packet.{Packet}
use Rattle.np_calculus.specs.declared.config.Place.{Place}
use Rattle.np_calculus.specs.declared.config.Place.TheVariants as place
use Rattle.np_calculus.specs.Config.{Config}

-- what stands in a configuration, by its look-ups
pub record Contents : Type 0 where
  pub place : Name → Option Place
  pub atom : Name → Option Atom
  pub packet : Name → Option Packet

abbrev pub inside : Config → Contents
inside c = record { place = map.get c.places; atom = map.get c.atoms; packet = map.get c.packets }

-- an agent of this place is at the site
abbrev pub at_site : Option Place → ℕ → Bool
at_site (Some (place.At s)) site = nat_eq s site
at_site _ site = false

-- the number of the program's sites, the agents that are at the site, and the atoms of these
pub record Sight : Type 0 where
  pub sites : ℕ
  pub here : Name → Bool
  pub atom : Name → Option Atom

abbrev pub sight : ℕ → Contents → ℕ → Sight
sight sites x site = record {
  sites = sites;
  here = λ agent. at_site (x.place agent) site;
  atom = λ mark. x.atom mark >>= λ a. need (at_site (x.place a.agent) site) >> Some a;
}
