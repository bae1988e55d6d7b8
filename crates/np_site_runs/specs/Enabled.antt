-- Of which agent an event is that is enabled in what a site holds (docs/LANGUAGE.md, "Reductions").
use Rattle.std.specs.Prelude.{◌≡◌, ◌+◌, ℕ, Bool, is_some, IsSome, Some}
use Rattle.std.specs.FinMap as table
use Rattle.np_syntax.specs.declared.value.Name.{Name}
use Rattle.np_syntax.specs.declared.event.Event.{Event}
use Rattle.np_syntax.specs.declared.event.Kind.TheVariants as kind
use Rattle.np_tables.specs.Names.{NameMap}
use Rattle.np_calculus.specs.declared.config.Atom.{Atom}
use Rattle.np_calculus.specs.Config.{Config}
use Rattle.np_calculus.specs.Reductions.{apply}
use Rattle.np_calculus.specs.Rows.{change_in, made_of}
use Rattle.np_site_runs.specs.Going.{AsksFor, own_sight}
use Rattle.np_site_runs.specs.Holdings.{Holding, IsPart, name_of}
use Rattle.np_site_runs.specs.Making.{AreNext}

-- the row of the event's kind is met by an agent's atoms, whatever names it makes, and whether or not an agent for which it asks is here
abbrev pub IsReady : ℕ → NameMap Atom → Event → Type 0
IsReady sites atoms e = (here : Bool) (first second : Name)
    → IsSome (change_in e.kind (own_sight sites atoms here) (record e { site = 0; made = made_of e.kind here first second }))

-- an agent that stands here is ready for the event
pub record IsOfAgent (h : Holding) (e : Event) : Type 0 where
  pub agent : Name
  pub atoms : NameMap Atom
  pub stands : table.get h.agents agent ≡ Some atoms
  pub site : e.site ≡ h.site
  pub ready : IsReady h.sites atoms e
  -- whether the agent for which it asks is here
  pub here : Bool
  pub told : (other : Name) → AsksFor atoms e.actor other → is_some (table.get h.agents other) ≡ here
  pub row : IsSome (change_in e.kind (own_sight h.sites atoms here) e)
  -- it makes as many names as its kind does
  pub made : AreNext h e.made → e.made ≡ made_of e.kind here (name_of h.site h.next) (name_of h.site (h.next + 1))

-- so it is with each event but a post that is enabled in what the site holds
abbrev pub EnabledIsOfAgent : Type 0
EnabledIsOfAgent = (h : Holding) (c next : Config) (e : Event) → IsPart h c → (e.kind ≡ kind.Post → ⊥) → apply c e ≡ Some next
    → IsOfAgent h e
