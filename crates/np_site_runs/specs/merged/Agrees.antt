-- When a configuration agrees with what a site has: then each event of the site is one of the configuration.
use Rattle.std.specs.Prelude.{◌≡◌, ℕ, true, Option, None, Some, IsSome}
use Rattle.np_syntax.specs.declared.value.Name.{Name}
use Rattle.np_syntax.specs.declared.event.Event.{Event}
use Rattle.np_calculus.specs.declared.config.Atom.{Atom}
use Rattle.np_calculus.specs.declared.config.Packet.{Packet}
use Rattle.np_calculus.specs.declared.config.Place.{Place}
use Rattle.np_calculus.specs.declared.config.Place.TheVariants as place
use Rattle.np_calculus.specs.Config.{Config}
use Rattle.np_calculus.specs.FrameRule.{Framed}
use Rattle.np_calculus.specs.Parts.{AreBorn, IsLodged}
use Rattle.np_calculus.specs.Reductions.{apply, are_new}
use Rattle.np_calculus.specs.Sight.{Contents, inside}

-- what the part has the whole has; the agents of the site are in the part, with all their atoms; and no mark is that of an
-- atom and of a packet
pub record Agrees (part whole : Config) (site : ℕ) : Type 0 where
  pub sites : whole.sites ≡ part.sites
  pub places : (q : Name) (p : Place) → (inside part).place q ≡ Some p → (inside whole).place q ≡ Some p
  pub atoms : (m : Name) (a : Atom) → (inside part).atom m ≡ Some a → (inside whole).atom m ≡ Some a
  pub packets : (m : Name) (p : Packet) → (inside part).packet m ≡ Some p → (inside whole).packet m ≡ Some p
  pub here : (q : Name) → (inside whole).place q ≡ Some (place.At site) → IsSome ((inside part).place q)
  pub with_them : (m : Name) (a : Atom) → (inside whole).atom m ≡ Some a → IsSome ((inside part).place a.agent)
      → IsSome ((inside part).atom m)
  pub one_mark : (m : Name) → IsSome ((inside whole).atom m) → (inside whole).packet m ≡ None
  pub lodged : IsLodged (inside whole)
  pub born : AreBorn whole

-- what there is of the second where there is nothing of the first
abbrev pub lacking : {X Y : Type 0} → Option X → Option Y → Option Y
lacking None o = o
lacking (Some x) o = None

-- what the whole has and the part has not
abbrev pub minus : Contents → Contents → Contents
minus x y = record {
  place = λ q. lacking (y.place q) (x.place q);
  atom = λ m. lacking (y.atom m) (lacking (y.packet m) (x.atom m));
  packet = λ m. lacking (y.atom m) (lacking (y.packet m) (x.packet m));
}

-- an event of the site is one of every configuration that agrees with it, and changes nothing else
abbrev pub EventOfSite : Type 0
EventOfSite = (part next whole : Config) (e : Event) → Agrees part whole e.site → are_new whole.born e.made ≡ true
    → apply part e ≡ Some next
    → Framed whole part next (minus (inside whole) (inside part)) e
