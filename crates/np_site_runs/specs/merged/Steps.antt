-- Sites that hold parts of one configuration, and items under way between them: what a site does is an event of its part.
use Rattle.std.specs.Prelude.{◌≡◌, ◌<◌, ℕ, zero, suc, cond, List, [], ◌∷◌, ◌++◌, map, filter, Some, nat_eq}
use Rattle.std.specs.FinSet as set
use Rattle.np_syntax.specs.declared.value.Name.{Name}
use Rattle.np_syntax.specs.declared.value.Value.{Value}
use Rattle.np_syntax.specs.declared.event.Event.{Event}
use Rattle.np_syntax.specs.declared.event.Kind.TheVariants as kind
use Rattle.np_syntax.specs.Reordering.{Reordered}
use Rattle.np_calculus.specs.Config.{Config}
use Rattle.np_calculus.specs.FrameRule.{Every, IsMade}
use Rattle.np_calculus.specs.Parts.{AreBorn, IsAway, IsLodged, IsOfSite}
use Rattle.np_calculus.specs.Reductions.{apply, run}
use Rattle.np_calculus.specs.Sight.{Contents, inside}
use Rattle.np_site_runs.specs.merged.Joined.{IsJoined}

-- what is under way: its atoms are with their agents, and no agent is at a site
pub record IsItem (x : Contents) : Type 0 where
  pub lodged : IsLodged x
  pub away : (u : ℕ) → IsAway x u

pub record SameRecords (c d : Config) : Type 0 where
  pub sites : c.sites ≡ d.sites
  pub born : c.born ≡ d.born
  pub said : c.said ≡ d.said

-- A step of a site: what it has and the items that it takes are joined, the event is made there, and what comes of it is
-- what the site has then and the items that it puts out. It makes names of its own.
pub record IsStep (e : Event) (old : Config) (taken : List Contents) (new : Config) (put : List Contents) : Type 0 where
  pub full : Config
  pub joins : IsJoined (inside full) (inside old ∷ taken)
  pub same : SameRecords full old
  pub next : Config
  pub applies : apply full e ≡ Some next
  pub parts : IsJoined (inside next) (inside new ∷ put)
  pub kept : SameRecords new next
  pub site : IsOfSite e.site (inside new)
  pub items : Every IsItem put
  pub own : (q : Name) → IsMade e.made q → q.site ≡ e.site

-- an event that a site makes of what it has, but a post, is a step in which no item is taken or put out
abbrev pub InnerStep : Type 0
InnerStep = (old new : Config) (e : Event) → IsOfSite e.site (inside old) → (e.kind ≡ kind.Post → ⊥)
    → ((q : Name) → IsMade e.made q → q.site ≡ e.site)
    → apply old e ≡ Some new → IsStep e old [] new []

-- what each site has, and the items under way
pub record Spread : Type 0 where
  pub here : ℕ → Config
  pub air : List Contents

pub record Step : Type 0 where
  pub event : Event
  pub taken : List Contents
  pub put : List Contents

abbrev pub with_site : (ℕ → Config) → ℕ → Config → ℕ → Config
with_site here s l u = cond (nat_eq u s) l (here u)

-- a step of one of n sites, with items that are under way
pub record StepsTo (n : ℕ) (g : Spread) (d : Step) (h : Spread) : Type 0 where
  pub within : d.event.site < n
  pub rest : List Contents
  pub took : Reordered g.air (d.taken ++ rest)
  pub now : Config
  pub step : IsStep d.event (g.here d.event.site) d.taken now d.put
  pub here : h.here ≡ with_site g.here d.event.site now
  pub left : Reordered (d.put ++ rest) h.air

abbrev pub Steps : ℕ → Spread → List Step → Spread → Type 0
Steps n g [] h = g ≡ h
Steps n g (d ∷ ds) h = (f : Spread) × StepsTo n g d f × Steps n f ds h

-- what the sites below n have
abbrev pub sites : ℕ → (ℕ → Config) → List Contents
sites zero here = []
sites (suc n) here = inside (here n) ∷ sites n here

abbrev pub said_at : ℕ → List (ℕ × Value) → List (ℕ × Value)
said_at s said = filter (λ p. nat_eq p.0 s) said

-- The configuration is what the n sites and the items have. A name is born where its own site has it so, and what was said
-- at a site is what the site has as said.
pub record IsSpread (n : ℕ) (g : Spread) (c : Config) : Type 0 where
  pub joined : IsJoined (inside c) (sites n g.here ++ g.air)
  pub born : AreBorn c
  pub own : (q : Name) → set.contains c.born q ≡ set.contains (g.here q.site).born q
  pub said : (s : ℕ) → said_at s c.said ≡ (g.here s).said
  pub number : (s : ℕ) → c.sites ≡ (g.here s).sites
  pub site : (s : ℕ) → IsOfSite s (inside (g.here s))
  pub items : Every IsItem g.air

-- the steps of the sites are a run of the whole, in each order in which an item is put out before it is taken
abbrev pub StepsRun : Type 0
StepsRun = (n : ℕ) (ds : List Step) (g h : Spread) (c : Config) → IsSpread n g c → Steps n g ds h
    → (d : Config) × (run c (map (λ d. d.event) ds) ≡ Some d) × IsSpread n h d
