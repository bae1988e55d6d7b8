-- What an event looks at, and what it writes.
use Rattle.std.specs.Prelude.{◌≡◌, List, [], ◌∷◌, ◌++◌, map, Option, None, Some}
use Rattle.np_syntax.specs.declared.value.Name.{Name}
use Rattle.np_syntax.specs.declared.event.Event.{Event}
use Rattle.np_syntax.specs.declared.event.Kind.{Kind}
use Rattle.np_syntax.specs.declared.event.Kind.TheVariants as kind
use Rattle.np_syntax.specs.Options.{◌>>=◌}
use Rattle.np_eval.specs.Eval.{agent_of}
use Rattle.np_eval.specs.Forms.{layer}
use Rattle.np_eval.specs.FormParts.{as_iflocal}
use Rattle.np_calculus.specs.declared.config.Atom.{Atom}
use Rattle.np_calculus.specs.declared.config.Packet.{Packet}
use Rattle.np_calculus.specs.Changes.{Change, effect}
use Rattle.np_calculus.specs.Config.{Config}
use Rattle.np_calculus.specs.FrameRule.{Every}
use Rattle.np_calculus.specs.Reductions.{change}
use Rattle.np_calculus.specs.Sight.{Contents, inside}

-- marks, and agents whose places are meant
pub record Footprint : Type 0 where
  pub marks : List Name
  pub places : List Name

abbrev pub listed : Option Name → List Name
listed None = []
listed (Some q) = q ∷ []

-- the agent of an atom, and the one that a location test asks for
abbrev pub asked_by : Option Atom → List Name
asked_by None = []
asked_by (Some a) = a.agent ∷ listed (as_iflocal (layer a.proc) >>= λ (agent, chan, sent, met, unmet). agent_of agent a.env)

abbrev pub bound_for : Option Packet → List Name
bound_for None = []
bound_for (Some p) = p.agent ∷ []

-- what an event touches: the marks at which it looks, and the agents for whose places it asks
abbrev pub touches : Kind → Contents → Event → Footprint
touches kind.Arrive x e = record { marks = []; places = e.actor ∷ [] }
touches kind.Land x e = record { marks = e.actor ∷ []; places = bound_for (x.packet e.actor) }
touches _ x e = record { marks = e.actor ∷ listed e.other; places = asked_by (x.atom e.actor) }

-- what a change writes
abbrev pub written_by : Change → Footprint
written_by d = record { marks = map (λ w. w.0) d.atoms ++ map (λ w. w.0) d.packets; places = map (λ w. w.0) d.places }

-- the same stands under a mark, and an agent has the same place
pub record SameMark (x y : Contents) (q : Name) : Type 0 where
  pub atom : x.atom q ≡ y.atom q
  pub packet : x.packet q ≡ y.packet q

pub record SamePlace (x y : Contents) (q : Name) : Type 0 where
  pub place : x.place q ≡ y.place q

pub record AgreesOn (x y : Contents) (f : Footprint) : Type 0 where
  pub marks : Every (SameMark x y) f.marks
  pub places : Every (SamePlace x y) f.places

-- none of the one is one of the other
pub record Misses (f g : Footprint) : Type 0 where
  pub marks : Every (λ q. Every (λ k. q ≡ k → ⊥) g.marks) f.marks
  pub places : Every (λ q. Every (λ k. q ≡ k → ⊥) g.places) f.places

-- an event depends on nothing but what it touches
abbrev pub DependsOnTouched : Type 0
DependsOnTouched = (c d : Config) (e : Event) → c.sites ≡ d.sites → AgreesOn (inside c) (inside d) (touches e.kind (inside c) e)
    → change e.kind c.sites (inside c) e ≡ change e.kind d.sites (inside d) e

-- so it does not see an event that writes nothing of this
abbrev pub Unseen : Type 0
Unseen = (c : Config) (e f : Event) (d : Change) → Misses (touches f.kind (inside c) f) (written_by d)
    → change f.kind c.sites (inside c) f ≡ change f.kind c.sites (inside (effect c e d)) f
