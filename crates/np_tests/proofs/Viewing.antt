-- What the views of a run ask for.
use Rattle.std.proofs.Common.{◌≡◌, ◌<◌, ℕ, List, Option, Some, IsSome, length, get_or, refl, sym, ap, subst, ◌∙◌}
use Rattle.std.specs.Prelude.{slice_get}
use Rattle.std.proofs.lemmas.Option.{slice_get-get_or}
use Rattle.np_syntax.specs.declared.event.Event.{Event}
use Rattle.np_syntax.specs.declared.event.Kind.TheVariants as kind
use Rattle.np_syntax.specs.declared.program.Program.{Program}
use Rattle.np_calculus.specs.Config.{Config}
use Rattle.np_calculus.specs.Reductions.{run}
use Rattle.np_calculus.specs.Starts.{start_high}
use Rattle.np_lift.specs.Lift.{lift}
use Rattle.run_views.specs.Pasts.{IsPrint}
use Rattle.simulate_laws.specs.Lifted.{ShowsHigh}

pub print_at : (events : List Event) (index : ℕ) (d : Event) → index < length events → (get_or events index d).kind ≡ kind.Print → IsPrint (slice_get events index)
print_at events index d less is = subst (λ (e : Option Event). IsPrint e) (sym (slice_get-get_or events index d less)) is

some_of : (o : Option Config) (x : Config) → o ≡ Some x → IsSome o
some_of o x is = subst (λ (y : Option Config). IsSome y) (sym is) refl

pub high_run : (p : Program) (events high : List Event) (last : Config) → high ≡ lift events → ShowsHigh p events last → IsSome (run (start_high p) high)
high_run p events high last are shows = some_of _ last (ap (run (start_high p)) are ∙ shows.runs)
