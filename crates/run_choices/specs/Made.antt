-- Events that are made of draws (docs/SCHEDULES.md, "What is drawn").
use Rattle.std.specs.Prelude.{◌≡◌, List, [], ◌∷◌, ◌++◌, Some}
use Rattle.np_syntax.specs.declared.event.Event.{Event}
use Rattle.np_calculus.specs.Config.{Config}
use Rattle.np_calculus.specs.Reductions.{apply}
use Rattle.run_choices.specs.declared.choice.Draw.{Draw}

-- The events are made of the draws, one after another: what an event has to be where these were made before it, and which draw it is
-- made of, is given.
abbrev pub AreMade : (List Event → Config → Draw → Event → Type 0) → List Event → Config → List Draw → List Event → Type 0
AreMade Makes made c [] [] = Unit {0}
AreMade Makes made c (d ∷ ds) (e ∷ es) =
    Makes made c d e × ((next : Config) → apply c e ≡ Some next → AreMade Makes (made ++ e ∷ []) next ds es)
AreMade Makes made c _ _ = ⊥
