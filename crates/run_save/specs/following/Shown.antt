-- Which items of a run are those that sites put on their way (docs/HISTORIES.md, "History text").
use Rattle.std.specs.Prelude.{◌≡◌, ℕ, List, [], ◌∷◌, None, Some, IsSome}
use Rattle.np_syntax.specs.declared.value.Name.{Name}
use Rattle.np_calculus.specs.declared.config.Packet.{Packet}
use Rattle.np_calculus.specs.declared.config.Place.TheVariants as place
use Rattle.np_calculus.specs.Sight.{Contents}
use Rattle.np_site_runs.specs.merged.Deeds.{StampedItem}
use Rattle.run_save.specs.declared.trips.Item.{Item}
use Rattle.run_save.specs.declared.trips.Item.TheVariants as item

-- an agent is under way to the site, and no other agent and no packet is
pub record BringsAgent (site : ℕ) (agent : Name) (x : Contents) : Type 0 where
  pub comes : x.place agent ≡ Some (place.Way site)
  pub alone : (q : Name) → IsSome (x.place q) → q ≡ agent
  pub packets : (m : Name) → x.packet m ≡ None

-- a packet with a mark is for the site, and no other packet and no agent is under way
pub record BringsPacket (site : ℕ) (mark : Name) (x : Contents) : Type 0 where
  pub packet : Packet
  pub flies : x.packet mark ≡ Some packet
  pub to : packet.to ≡ site
  pub alone : (m : Name) → IsSome (x.packet m) → m ≡ mark
  pub agents : (q : Name) → x.place q ≡ None

-- what goes to the site is this item
abbrev pub Shows : ℕ → Item → StampedItem → Type 0
Shows site (item.Agent agent) x = BringsAgent site agent x.item.load
Shows site (item.Packet mark) x = BringsPacket site mark x.item.load

-- what goes to the site are these items, one by one in order
abbrev pub ShowEach : ℕ → List Item → List StampedItem → Type 0
ShowEach site [] [] = Unit {0}
ShowEach site (i ∷ is) (x ∷ xs) = Shows site i x × ShowEach site is xs
ShowEach site _ _ = ⊥
