-- Where sites have the parts of a configuration, and links what is under way: which of its sites can act, and whether it rests
-- (docs/LANGUAGE.md, "Reductions").
use Rattle.std.specs.Prelude.{◌≡◌, ◌<◌, ◌⊎◌, ◌↔◌, ℕ, Some}
use Rattle.np_syntax.specs.declared.value.Name.{Name}
use Rattle.np_calculus.specs.declared.config.Packet.{Packet}
use Rattle.np_calculus.specs.declared.config.Place.TheVariants as place
use Rattle.np_calculus.specs.Config.{Config}
use Rattle.np_calculus.specs.Idle.{Can, Idle}
use Rattle.np_calculus.specs.Sight.{Contents}
use Rattle.np_site_runs.specs.merged.Links.{Linked, spread}
use Rattle.np_site_runs.specs.merged.Steps.{IsSpread}
use Rattle.np_site_runs.specs.merged.Elements.{Occurs}

-- a packet to the site
pub record BringsPacket (x : Contents) (site : ℕ) : Type 0 where
  pub mark : Name
  pub packet : Packet
  pub flies : x.packet mark ≡ Some packet
  pub to : packet.to ≡ site

-- an agent under way to the site
pub record BringsAgent (x : Contents) (site : ℕ) : Type 0 where
  pub agent : Name
  pub comes : x.place agent ≡ Some (place.Way site)

abbrev pub Brings : ℕ → Contents → Type 0
Brings site x = BringsPacket x site ⊎ BringsAgent x site

-- it can act in what one of n sites has
abbrev pub ActsInPart : ℕ → Linked → ℕ → Type 0
ActsInPart n g site = (u : ℕ) × (u < n) × Can (g.here u) site

-- something is under way to it on a link between n sites
abbrev pub IsAwaited : ℕ → Linked → ℕ → Type 0
IsAwaited n g site = (u t : ℕ) × (u < n) × (t < n) × Occurs (λ x. Brings site x.load) (g.link u t)

-- a site can act in the whole just where it can in what one of the sites has, or something is under way to it
abbrev pub CanInParts : Type 0
CanInParts = (n : ℕ) (g : Linked) (c : Config) (site : ℕ) → IsSpread n (spread n g) c
    → Can c site ↔ (ActsInPart n g site ⊎ IsAwaited n g site)

-- the whole rests just where what each site has rests, and nothing is under way
abbrev pub IdleInParts : Type 0
IdleInParts = (n : ℕ) (g : Linked) (c : Config) → IsSpread n (spread n g) c
    → Idle c ↔ (((u : ℕ) → u < n → Idle (g.here u)) × ((site : ℕ) → ¬ IsAwaited n g site))
