-- What an event within an agent does, and the making of an agent and a location test that finds its agent (docs/LANGUAGE.md, "Reductions").
use Rattle.std.specs.Prelude.{◌≡◌, true, false, List, [], ◌∷◌, ◌++◌, Option, None, Some}
use Rattle.std.specs.FinMap as table
use Rattle.np_syntax.specs.declared.value.Name.{Name}
use Rattle.np_syntax.specs.declared.value.Value.{Value}
use Rattle.np_syntax.specs.declared.event.Event.{Event}
use Rattle.np_syntax.specs.declared.event.Kind.{Kind}
use Rattle.np_syntax.specs.declared.event.Kind.TheVariants as kind
use Rattle.np_tables.specs.Names.{NameMap}
use Rattle.np_calculus.specs.declared.config.Atom.{Atom}
use Rattle.np_calculus.specs.declared.config.Packet.{Packet}
use Rattle.np_calculus.specs.declared.config.Place.TheVariants as place
use Rattle.np_calculus.specs.Changes.{put, still}
use Rattle.np_calculus.specs.Rows.{output_of}
use Rattle.stamp_history.specs.declared.stamped.Stamped.{Stamped}
use Rattle.np_site_runs.specs.merged.Deeds.{Deed}
use Rattle.np_site_runs.specs.Holdings.{Does, Holding}
use Rattle.np_site_runs.specs.Going.{AsksFor, Goes, GoesPast}
use Rattle.np_site_runs.specs.Making.{AreNext, next_after}

-- an event that takes no item and puts none out
abbrev pub inner : Stamped → Deed
inner x = record { event = x; taken = None; put = None }

-- an event of this kind of an agent that stands here with these atoms, which makes the next names of the site
pub record IsOwnEvent (h : Holding) (agent : Name) (atoms : NameMap Atom) (k : Kind) (e : Event) : Type 0 where
  pub site : e.site ≡ h.site
  pub kind : e.kind ≡ k
  pub stands : table.get h.agents agent ≡ Some atoms
  pub makes : AreNext h e.made

abbrev pub with_value : List Value → Option Value → List Value
with_value values None = values
with_value values (Some v) = values ++ v ∷ []

-- the agent has these atoms then, the names are made, and the value is said if there is one
abbrev pub gone_on : Holding → Name → NameMap Atom → Event → Option Value → Holding
gone_on h agent atoms e value =
    record h { agents = table.insert h.agents agent atoms; next = next_after h.next e.made; said = with_value h.said value }

-- an event within an agent: what else changes is at most that a value is said
abbrev pub GoesOn : Type 0
GoesOn = (h : Holding) (x : Stamped) (agent : Name) (old new : NameMap Atom) (k : Kind) (value : Option Value)
    → IsOwnEvent h agent old k x.event
    → (k ≡ kind.Local → ⊥) → (k ≡ kind.Post → ⊥) → Goes k h.sites old new x.event (record still { said = value })
    → Does h (inner x) (gone_on h agent new x.event value)

-- so it is with a location test whose agent is not here
abbrev pub GoesOnAlone : Type 0
GoesOnAlone = (h : Holding) (x : Stamped) (agent other : Name) (old new : NameMap Atom) → IsOwnEvent h agent old kind.Local x.event
    → AsksFor old x.event.actor other → table.get h.agents other ≡ None → Goes kind.Local h.sites old new x.event still
    → Does h (inner x) (gone_on h agent new x.event None)

-- the agents with one more atom of one of them
abbrev pub given : Holding → Name → NameMap Atom → Name → Atom → Holding
given h agent atoms mark atom = record h { agents = table.insert h.agents agent (table.insert atoms mark atom) }

-- a location test whose agent is here, maybe the same: that one gets the output under the mark that is made
abbrev pub Tells : Type 0
Tells = (h : Holding) (x : Stamped) (agent mark : Name) (packet : Packet) (old new there : NameMap Atom)
    → IsOwnEvent h agent old kind.Local x.event
    → GoesPast kind.Local h.sites true old new x.event (record still { atoms = put mark (output_of packet) ∷ [] })
    → table.get (table.insert h.agents agent new) packet.agent ≡ Some there
    → Does h (inner x) (given (gone_on h agent new x.event None) packet.agent there mark (output_of packet))

-- the making of an agent: it stands here then with its one atom
abbrev pub Makes : Type 0
Makes = (h : Holding) (x : Stamped) (agent child mark : Name) (first : Atom) (old new : NameMap Atom)
    → IsOwnEvent h agent old kind.Agent x.event
    → GoesPast kind.Agent h.sites false old new x.event
    (record still { places = put child (place.At h.site) ∷ []; atoms = put mark first ∷ [] })
    → Does h (inner x) (given (gone_on h agent new x.event None) child table.empty mark first)
