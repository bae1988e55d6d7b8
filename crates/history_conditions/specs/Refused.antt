-- Why a condition tells what the table of reductions refuses (docs/PICTURES.md, "Refusals").
use Rattle.std.specs.Prelude.{◌≡◌, ◌↔◌, None, IsSome}
use Rattle.np_syntax.specs.declared.event.Event.{Event}
use Rattle.np_calculus.specs.Config.{Config}
use Rattle.np_calculus.specs.Reductions.{apply}
use Rattle.history_conditions.specs.Conditions.{first_unmet}

-- an event is refused exactly where one of its conditions does not hold
abbrev pub IsRefusedWhereUnmet : Type 0
IsRefusedWhereUnmet = (c : Config) (e : Event) → (apply c e ≡ None) ↔ IsSome (first_unmet c e)
