-- An event of a part of a configuration is an event of the whole, and leaves the rest as it is.
use Rattle.std.specs.Prelude.{◌≡◌, ◌⊎◌, ℕ, true, cond, List, [], ◌∷◌, Option, Some, IsSome, IfSome}
use Rattle.np_syntax.specs.declared.value.Name.{Name}
use Rattle.np_syntax.specs.declared.value.Value.{Value}
use Rattle.np_syntax.specs.declared.event.Event.{Event}
use Rattle.np_syntax.specs.declared.event.Kind.{Kind}
use Rattle.np_syntax.specs.declared.event.Kind.TheVariants as kind
use Rattle.np_syntax.specs.declared.event.Made.{Made}
use Rattle.np_syntax.specs.declared.event.Made.TheVariants as made
use Rattle.np_tables.specs.Names.{same_name}
use Rattle.np_calculus.specs.declared.config.Place.TheVariants as place
use Rattle.np_calculus.specs.Changes.{Change, Write, with_made, with_said}
use Rattle.np_calculus.specs.Config.{Config}
use Rattle.np_calculus.specs.Parts.{IsMark, IsLodged, IsAway, IsOfSite, IsWhole}
use Rattle.np_calculus.specs.Sight.{Contents, inside}
use Rattle.np_calculus.specs.Reductions.{apply, are_new}

-- this holds of every element
abbrev pub Every : {A : Type 0} → (A → Type 0) → List A → Type 0
Every P [] = Unit {0}
Every P (x ∷ xs) = P x × Every P xs

-- what stands under a name after writes, where this stood there before
abbrev pub left_by : {X : Type 0} → List (Write X) → Name → Option X → Option X
left_by [] q before = before
left_by (w ∷ ws) q before = left_by ws q (cond (same_name q w.0) w.1 before)

abbrev pub changed : Contents → Change → Contents
changed x d = record {
  place = λ q. left_by d.places q (x.place q);
  atom = λ q. left_by d.atoms q (x.atom q);
  packet = λ q. left_by d.packets q (x.packet q);
}

-- the agents and the marks that a change writes are of these
pub record Writes (A M : Name → Type 0) (d : Change) : Type 0 where
  pub places : Every (λ w. A w.0) d.places
  pub atoms : Every (λ w. M w.0) d.atoms
  pub packets : Every (λ w. M w.0) d.packets

abbrev pub IsMade : Made → Name → Type 0
IsMade made.Nothing q = ⊥
IsMade (made.One m) q = q ≡ m
IsMade (made.Two m n) q = (q ≡ m) ⊎ (q ≡ n)

-- What holds of the change of each event. It writes what stands there or is made; no agent loses its place or comes to
-- another site than the event's; and the agent of each atom that it puts has a place, but for the output of a post.
pub record Fits (x : Contents) (e : Event) (d : Change) : Type 0 where
  pub own : Writes (λ q. IsSome (x.place q) ⊎ IsMade e.made q) (λ q. IsMark x q ⊎ IsMade e.made q) d
  pub settled : Every (λ w. IsSome w.1) d.places
  pub comes : Every (λ w. (u : ℕ) → w.1 ≡ Some (place.At u) → u ≡ e.site) d.places
  pub lodged : Every (λ w. IfSome w.1 (λ a. IsSome ((changed x d).place a.agent) ⊎ (e.kind ≡ kind.Post))) d.atoms

-- what an event does to the whole that is one of the part
pub record Framed (whole part next : Config) (rest : Contents) (e : Event) : Type 0 where
  pub after : Config
  pub applies : apply whole e ≡ Some after
  pub is : IsWhole after next rest
  pub born : after.born ≡ with_made whole.born e.made
  pub value : Option Value
  pub said : (after.said ≡ with_said whole.said e.site value) × (next.said ≡ with_said part.said e.site value)

-- an event of a part is one of the whole, where no agent of the rest is at its site and the names that it makes are new in
-- the whole
abbrev pub FrameRule : Type 0
FrameRule = (whole part next : Config) (rest : Contents) (e : Event) → IsWhole whole part rest → IsLodged rest → IsAway rest e.site
    → are_new whole.born e.made ≡ true → apply part e ≡ Some next → Framed whole part next rest e

-- an agent that arrives and a packet that lands stand in the part
abbrev pub Comes : Kind → Contents → Name → Type 0
Comes kind.Arrive x q = IsSome (x.place q)
Comes kind.Land x q = IsSome (x.packet q)
Comes _ x q = Unit {0}

-- an event of the whole is one of the part, where what comes is in the part
abbrev pub FrameBack : Type 0
FrameBack = (whole part after : Config) (rest : Contents) (e : Event) → IsWhole whole part rest → IsLodged rest → IsAway rest e.site
    → Comes e.kind (inside part) e.actor → are_new part.born e.made ≡ true → apply whole e ≡ Some after
    → (next : Config) × (apply part e ≡ Some next) × IsWhole after next rest

-- an event that is no post keeps each atom with an agent that has a place
abbrev pub KeepsLodged : Type 0
KeepsLodged = (c d : Config) (e : Event) → (e.kind ≡ kind.Post → ⊥) → IsLodged (inside c) → apply c e ≡ Some d → IsLodged (inside d)

-- and what is of a site stays of it
abbrev pub KeepsOfSite : Type 0
KeepsOfSite = (c d : Config) (e : Event) → (e.kind ≡ kind.Post → ⊥) → IsOfSite e.site (inside c) → apply c e ≡ Some d
    → IsOfSite e.site (inside d)
