-- What an arrow of a picture joins (docs/PICTURES.md, "Pictures").
use Rattle.std.specs.Prelude.{◌≡◌, ◌⊎◌, ◌<◌, List, Some, slice_get}
use Rattle.np_syntax.specs.declared.event.Kind.TheVariants as kinds
use Rattle.run_pictures.specs.declared.step.Step.{Step}
use Rattle.run_pictures.specs.declared.layout.Arrow.{Arrow}

-- a packet is sent, and a packet of this mark lands
pub record Carries (from to : Step) : Type 0 where
  pub sends : from.event.kind ≡ kinds.Send
  pub lands : to.event.kind ≡ kinds.Land
  pub mark : from.event.actor ≡ to.event.actor

-- an agent leaves, and this agent arrives
pub record Moves (from to : Step) : Type 0 where
  pub departs : from.event.kind ≡ kinds.Depart
  pub arrives : to.event.kind ≡ kinds.Arrive
  pub agent : from.agent ≡ to.agent

-- the arrow goes from a step to a later one, which ends what the first began
pub record IsArrow (steps : List Step) (arrow : Arrow) : Type 0 where
  pub start : Step
  pub end : Step
  pub starts : slice_get steps arrow.from ≡ Some start
  pub ends : slice_get steps arrow.to ≡ Some end
  pub later : arrow.from < arrow.to
  pub joins : Carries start end ⊎ Moves start end
