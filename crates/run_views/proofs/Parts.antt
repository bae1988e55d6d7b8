-- Where all events are a run, each is enabled.
use Rattle.std.proofs.Common.{◌≡◌, ℕ, ◌+◌, ◌<◌, List, take, drop, get_or, length, Option, None, Some, IsSome, refl, sym, ap, subst, ◌∙◌}
use Rattle.std.proofs.lemmas.List.{take-append-drop}
use Rattle.np_syntax.specs.Options.{◌>>=◌}
use Rattle.np_syntax.specs.declared.event.Event.{Event}
use Rattle.np_calculus.specs.Config.{Config}
use Rattle.np_calculus.specs.Reductions.{apply, run}
use Rattle.np_calculus.proofs.Runs.{one-more, run-parts}
pub use Rattle.np_calculus.proofs.Runs.{goes-on}

-- the event at this place is enabled
pub enabled-here : (start : Config) (events : List Event) (index : ℕ) (e : Event) (c : Config) → index < length events → run start (take index events) ≡ Some c
    → IsSome (run start events) → IsSome (apply c (get_or events index e))
enabled-here start events index e c inside reaches h = step (apply c (get_or events index e)) (subst (λ o. IsSome o)
    (ap (run start) (sym (take-append-drop (index + 1) events)) ∙ run-parts start (take (index + 1) events) (drop (index + 1) events)
    ∙ ap (λ o. o >>= λ d. run d (drop (index + 1) events)) (one-more start events index e c inside reaches)) h)
  where
    step : (o : Option Config) → IsSome ((o >>= λ d. Some d) >>= λ d. run d (drop (index + 1) events)) → IsSome o
    step None h = absurd cc
    step (Some d) h = refl
