-- The past of a printed value, which is a run.
use Rattle.std.specs.Prelude.{◌≡◌, ℕ, List, [], ◌∷◌, Option, None, Some}
use Rattle.np_syntax.specs.declared.value.Value.{Value}
use Rattle.np_syntax.specs.declared.event.Event.{Event}
use Rattle.np_syntax.specs.declared.event.Kind.TheVariants as kind
use Rattle.np_syntax.specs.declared.program.LowProgram.{LowProgram}
use Rattle.np_calculus.specs.Config.{Config}
use Rattle.np_calculus.specs.Reductions.{run}
use Rattle.np_calculus.specs.Starts.{start_low}
use Rattle.run_views.specs.Laws.{Says}
use Rattle.run_views.specs.Past.{IsPastOf}

-- there is an event, and it is a Print
abbrev pub IsPrint : Option Event → Type 0
IsPrint None = ⊥
IsPrint (Some e) = e.kind ≡ kind.Print

-- the past of a Print of a run from the low start: it is a run from there too, which says just the value of that Print
pub record IsPastRun (low : LowProgram) (events : List Event) (index : ℕ) (led : List Event) : Type 0 where
  pub past : IsPastOf (start_low low) events index led
  pub item : ℕ × Value
  pub says : Says (start_low low) events index item
  pub last : Config
  pub runs : run (start_low low) led ≡ Some last
  pub said : last.said ≡ item ∷ []
