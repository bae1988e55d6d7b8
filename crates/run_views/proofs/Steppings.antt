-- The one-step list of a run, one event after another.
use Rattle.std.proofs.Common.{◌≡◌, ℕ, suc, ◌<◌, List, [], drop, get_or, length, Option, None, Some, IsSome, refl, sym, subst, drop-cons}
use Rattle.np_syntax.specs.Options.{◌>>=◌}
use Rattle.np_syntax.specs.declared.event.Event.{Event}
use Rattle.np_syntax.specs.declared.program.Program.{Program}
use Rattle.np_calculus.specs.Config.{Config}
use Rattle.np_calculus.specs.Reductions.{apply, run}
use Rattle.np_calculus.specs.Starts.{start_high}
use Rattle.run_views.specs.OneStep.{IsOneStepRun, one_step}
use Rattle.run_views.specs.Tests.{tests}
use Rattle.run_views.proofs.OneSteps.{one-step-is-run}
use Rattle.run_views.specs.Stepped.{IsStepped}

-- the next event is enabled, where what is left is a run
pub enabled-next : (c : Config) (events : List Event) (j : ℕ) (e : Event) → j < length events → IsSome (run c (drop j events)) → IsSome (apply c (get_or events j e))
enabled-next c events j e less h = first (apply c (get_or events j e)) (subst (λ l. IsSome (run c l)) (drop-cons events j e less) h)
  where
    first : (o : Option Config) → IsSome (o >>= λ d. run d (drop (suc j) events)) → IsSome o
    first None h = absurd cc
    first (Some d) h = refl

pub is-stepped : (p : Program) (events made : List Event) → tests p.main ≡ [] → IsSome (run (start_high p) events) → made ≡ one_step (start_high p) events → IsStepped p events made
is-stepped p events made none h list = on (run (start_high p) events) refl h
  where
    on : (o : Option Config) → run (start_high p) events ≡ o → IsSome o → IsStepped p events made
    on None is h = absurd cc
    on (Some last) is h = let r = one-step-is-run p events last none is in
        record { list = list; last = last; reaches = is; end = r.0; runs = subst (λ l. IsOneStepRun (start_high p) l r.0) (sym list) r.1; arrived = r.2 }
