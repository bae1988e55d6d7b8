-- An agent with its atoms, or a packet, leaves what a site has, and an item comes to it.
use Rattle.std.specs.Prelude.{◌≡◌, ℕ, cond, [], ◌∷◌, None, Some}
use Rattle.np_syntax.specs.declared.value.Name.{Name}
use Rattle.np_syntax.specs.declared.event.Event.{Event}
use Rattle.np_syntax.specs.declared.event.Kind.TheVariants as kind
use Rattle.np_syntax.specs.Options.{◌>>=◌}
use Rattle.np_tables.specs.Names.{same_name}
use Rattle.np_calculus.specs.declared.config.Place.TheVariants as place
use Rattle.np_calculus.specs.Config.{Config}
use Rattle.np_calculus.specs.FrameRule.{IsMade}
use Rattle.np_calculus.specs.Parts.{IsOfSite}
use Rattle.np_calculus.specs.Reductions.{apply}
use Rattle.np_calculus.specs.Sight.{Contents, inside}
use Rattle.np_site_runs.specs.merged.Joined.{IsJoined}
use Rattle.np_site_runs.specs.merged.Steps.{IsItem, IsStep, SameRecords}

-- an agent with its atoms, and what is left without it
abbrev pub of_agent : Contents → Name → Contents
of_agent x a = record {
  place = λ q. cond (same_name q a) (x.place q) None;
  atom = λ m. x.atom m >>= λ b. cond (same_name b.agent a) (Some b) None;
  packet = λ m. None;
}

abbrev pub without_agent : Contents → Name → Contents
without_agent x a = record {
  place = λ q. cond (same_name q a) None (x.place q);
  atom = λ m. x.atom m >>= λ b. cond (same_name b.agent a) None (Some b);
  packet = x.packet;
}

-- a packet, and what is left without it
abbrev pub of_packet : Contents → Name → Contents
of_packet x m = record { place = λ q. None; atom = λ q. None; packet = λ q. cond (same_name q m) (x.packet q) None }

abbrev pub without_packet : Contents → Name → Contents
without_packet x m = record { place = x.place; atom = x.atom; packet = λ q. cond (same_name q m) None (x.packet q) }

-- an event of the site's own, but a post
pub record IsOwn (old next : Config) (e : Event) : Type 0 where
  pub site : IsOfSite e.site (inside old)
  pub apart : e.kind ≡ kind.Post → ⊥
  pub own : (q : Name) → IsMade e.made q → q.site ≡ e.site
  pub applies : apply old e ≡ Some next

-- the site goes on as what is left
pub record IsLeft (next new : Config) (x : Contents) : Type 0 where
  pub is : inside new ≡ x
  pub same : SameRecords new next

-- an agent that is under way after the event is put out with its atoms, at a site that has no packet
abbrev pub AgentLeaves : Type 0
AgentLeaves = (old next new : Config) (e : Event) (a : Name) (t : ℕ) → IsOwn old next e → ((m : Name) → (inside next).packet m ≡ None)
    → (inside next).place a ≡ Some (place.Way t) → IsLeft next new (without_agent (inside next) a)
    → IsStep e old [] new (of_agent (inside next) a ∷ [])

-- and so is a packet
abbrev pub PacketLeaves : Type 0
PacketLeaves = (old next new : Config) (e : Event) (m : Name) → IsOwn old next e → (inside next).atom m ≡ None
    → IsLeft next new (without_packet (inside next) m) → IsStep e old [] new (of_packet (inside next) m ∷ [])

-- an item that comes is joined with what the site has, and the event is made there
abbrev pub ItemComes : Type 0
ItemComes = (old full next : Config) (e : Event) (x : Contents) → IsOfSite e.site (inside old) → IsItem x
    → IsJoined (inside full) (inside old ∷ x ∷ [])
    → SameRecords full old → (e.kind ≡ kind.Post → ⊥) → ((q : Name) → IsMade e.made q → q.site ≡ e.site) → apply full e ≡ Some next
    → IsStep e old (x ∷ []) next []
