-- Events with which a crew does not go on are none from which the sites can.
use Rattle.std.proofs.Common.{ℕ, List, Option, None, Some, IfNone}
use Rattle.np_syntax.specs.declared.event.Event.{Event}
use Rattle.np_syntax.specs.declared.program.LowProgram.{LowProgram}
use Rattle.site_crew.specs.Lists.{IsToFollow}
use Rattle.np_sources.specs.Reaches.{NeverGoesOn}

pub never_goes_on : {A : Type 0} (budget : ℕ) (q : LowProgram) (events : List Event) (made : Option A) → IfNone made (IsToFollow q budget events → ⊥)
    → IfNone made (NeverGoesOn budget q events)
never_goes_on budget q events None never = λ runs few can. never (record { runs = runs; few = few; within = can.within; ours = can.ours })
never_goes_on budget q events (Some kept) never = tt
