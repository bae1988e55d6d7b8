-- Which event of a run printed which of its values.
use Rattle.std.specs.Prelude.{◌≡◌, ◌+◌, ℕ, suc, cond, List, [], ◌∷◌, length, take, Some, slice_get}
use Rattle.np_syntax.specs.declared.value.Value.{Value}
use Rattle.np_syntax.specs.declared.event.Event.{Event}
use Rattle.np_syntax.specs.declared.program.LowProgram.{LowProgram}
use Rattle.np_calculus.specs.Config.{Config}
use Rattle.np_calculus.specs.Reductions.{run}
use Rattle.np_calculus.specs.Starts.{start_low}
use Rattle.run_views.specs.Laws.{Says}
use Rattle.run_views.specs.Past.{is_print}

-- how many of the events print a value
abbrev pub prints : List Event → ℕ
prints [] = 0
prints (e ∷ es) = cond (is_print e.kind) (suc (prints es)) (prints es)

-- Behind what was said at first, a run has said a value for each of its Prints, in their order.
abbrev pub SaidByPrints : Type 0
SaidByPrints = (c last : Config) (events : List Event) → run c events ≡ Some last
    → (length last.said ≡ length c.said + prints events)
    × ((i : ℕ) (item : ℕ × Value) → Says c events i item → slice_get last.said (length c.said + prints (take i events)) ≡ Some item)

-- at the low start nothing was said
abbrev pub LowSaidByPrints : Type 0
LowSaidByPrints = (low : LowProgram) (last : Config) (events : List Event) → run (start_low low) events ≡ Some last
    → (length last.said ≡ prints events)
    × ((i : ℕ) (item : ℕ × Value) → Says (start_low low) events i item → slice_get last.said (prints (take i events)) ≡ Some item)
