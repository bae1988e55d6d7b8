-- What a site holds, the configurations that are just this, and what the site does (docs/HISTORIES.md, "History text").
use Rattle.std.specs.Prelude.{◌≡◌, ◌<◌, ◌+◌, ℕ, nat_lt, List, [], ◌∷◌, map, option_map, None, Some, IsSome, IfSome}
use Rattle.std.specs.FinMap as table
use Rattle.std.specs.FinSet as set
use Rattle.np_syntax.specs.declared.event.Made.{Made}
use Rattle.np_syntax.specs.declared.event.Made.TheVariants as made
use Rattle.np_syntax.specs.declared.value.Name.{Name}
use Rattle.np_syntax.specs.declared.value.Value.{Value}
use Rattle.np_tables.specs.Names.{NameMap}
use Rattle.np_calculus.specs.declared.config.Atom.{Atom}
use Rattle.np_calculus.specs.declared.config.Place.TheVariants as place
use Rattle.np_calculus.specs.Config.{Config}
use Rattle.np_calculus.specs.FrameRule.{Every}
use Rattle.np_calculus.specs.Sight.{inside}
use Rattle.np_site_runs.specs.merged.Joined.{AreApart}
use Rattle.np_site_runs.specs.merged.Links.{loads}
use Rattle.np_site_runs.specs.merged.Steps.{IsItem, IsStep}
use Rattle.np_site_runs.specs.merged.Deeds.{Deed, plain}

pub record Holding : Type 0 where
  pub site : ℕ
  -- the number of the program's sites
  pub sites : ℕ
  -- the agents that stand here, each with its atoms by their marks
  pub agents : NameMap (NameMap Atom)
  -- the number of the next name that the site makes
  pub next : ℕ
  -- what was printed here, in order
  pub said : List Value

-- the name of a site with a number
abbrev pub name_of : ℕ → ℕ → Name
name_of site k = record { site = site; n = k }

-- an atom of an agent that stands here
pub record IsHeld (h : Holding) (m : Name) (a : Atom) : Type 0 where
  pub atoms : NameMap Atom
  pub here : table.get h.agents a.agent ≡ Some atoms
  pub has : table.get atoms m ≡ Some a

-- The configuration is what the site holds: its agents are those that stand here, its atoms are theirs, no packet is under way, and of
-- the names of the site those are born that it has made.
pub record IsPart (h : Holding) (c : Config) : Type 0 where
  pub sites : c.sites ≡ h.sites
  pub places : (q : Name) → table.get c.places q ≡ option_map (λ atoms. place.At h.site) (table.get h.agents q)
  pub own : (q : Name) (atoms : NameMap Atom) (m : Name) (a : Atom) → table.get h.agents q ≡ Some atoms → table.get atoms m ≡ Some a
      → a.agent ≡ q
  pub has : (m : Name) (a : Atom) → IsHeld h m a → table.get c.atoms m ≡ Some a
  pub only : (m : Name) (a : Atom) → table.get c.atoms m ≡ Some a → IsHeld h m a
  pub packets : (m : Name) → table.get c.packets m ≡ None
  pub born : (k : ℕ) → set.contains c.born (name_of h.site k) ≡ nat_lt k h.next
  pub said : c.said ≡ map (λ v. (h.site, v)) h.said

-- Each name of the site's own that stands there is one that it has made. No site can tell this of what comes to it: the run of all sites
-- tells it.
pub record AreMade (h : Holding) : Type 0 where
  pub agents : (k : ℕ) → IsSome (table.get h.agents (name_of h.site k)) → k < h.next
  pub marks : (k : ℕ) (a : Atom) → IsHeld h (name_of h.site k) a → k < h.next

-- where a configuration is what the site holds, and an item that the event takes is apart from it, the event is a step on to a
-- configuration that is what the site holds then
abbrev pub StepsOn : Holding → Deed → Holding → Type 0
StepsOn h d then = (old : Config) → IsPart h old → Every IsItem (loads (plain d.taken)) → AreApart (inside old ∷ loads (plain d.taken))
    → (new : Config) × IsPart then new × IsStep d.event.event old (loads (plain d.taken)) new (loads (plain d.put))

-- the names that an event makes are the site's next ones, in order, and the site has made them then
abbrev pub Numbers : Holding → Made → Holding → Type 0
Numbers h made.Nothing then = then.next ≡ h.next
Numbers h (made.One m) then = (m ≡ name_of h.site h.next) × (then.next ≡ h.next + 1)
Numbers h (made.Two m n) then = (m ≡ name_of h.site h.next) × (n ≡ name_of h.site (h.next + 1)) × (then.next ≡ h.next + 2)

-- an event that takes an item puts none on its way
abbrev pub IsOneWay : Deed → Type 0
IsOneWay d = IfSome d.taken (λ x. d.put ≡ None)

-- What a site does: it stays the same site, and steps on, if the names that stand there are made. That they are, and that the item is
-- apart, no site can tell: the run of all sites tells it. It numbers its names, and does not both take an item and put one on its way.
abbrev pub Does : Holding → Deed → Holding → Type 0
Does h d then = (then.site ≡ h.site) × (AreMade h → StepsOn h d then) × Numbers h d.event.event.made then × IsOneWay d

-- one after the other
abbrev pub DoesAll : Holding → List Deed → Holding → Type 0
DoesAll h [] then = h ≡ then
DoesAll h (d ∷ ds) then = (now : Holding) × Does h d now × DoesAll now ds then
