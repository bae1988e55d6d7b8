-- Following a run: each event has its step.
use Rattle.std.proofs.Common.{◌≡◌, ℕ, suc, ◌+◌, ◌<◌, ◌≤◌, List, [], ◌∷◌, ◌++◌, append_assoc, append-nil, length, map, drop, get_or, drop-cons, Option, None, Some, IsSome, is_some, refl, ap, sym, subst, add-one, ◌∙◌}
use Rattle.std.proofs.lemmas.List.{drop_all}
use Rattle.np_syntax.specs.Options.{◌>>=◌}
use Rattle.np_syntax.specs.declared.event.Event.{Event}
use Rattle.np_syntax.specs.declared.value.Value.{Value}
use Rattle.np_calculus.specs.Config.{Config}
use Rattle.np_calculus.specs.Reductions.{apply, run}
use Rattle.run_pictures.specs.declared.step.Step.{Step}
use Rattle.run_pictures.specs.declared.step.Followed.{Followed}
use Rattle.np_syntax.specs.Printed.{value_text}
use Rattle.run_steps.specs.Steps.{IsFollowed, Takes, each_of, step_of, steps}

-- the steps of a run are those of its events
pub events-of-steps : (c : Config) (events : List Event) → IsSome (run c events) → map (λ (step : Step). step.event) (steps c events) ≡ events
events-of-steps c [] h = refl
events-of-steps c (e ∷ es) h = on (apply c e) h (λ d more. events-of-steps d es more)
  where
    on : (o : Option Config) → IsSome (o >>= λ d. run d es) → ((d : Config) → IsSome (run d es) → map (λ (step : Step). step.event) (steps d es) ≡ es)
        → map (λ (step : Step). step.event) (each_of o (λ d. step_of c d e ∷ steps d es)) ≡ e ∷ es
    on None h more = absurd cc
    on (Some d) h more = ap (λ l. e ∷ l) (more d h)

-- one step more, and those still to come
pub steps-on : (c d : Config) (events : List Event) (i : ℕ) (e : Event) (made : List Step) (step : Step) (all : List Step)
    → i < length events → Takes c d (get_or events i e) step → made ++ steps c (drop i events) ≡ all → (made ++ step ∷ []) ++ steps d (drop (i + 1) events) ≡ all
steps-on c d events i e made step all less t h =
    let x : Event = get_or events i e in
    let rest : List Event = drop (suc i) events in
    let here : steps c (drop i events) ≡ each_of (apply c x) (λ d. step_of c d x ∷ steps d rest) = ap (steps c) (drop-cons events i e less) in
    let next : each_of (apply c x) (λ d. step_of c d x ∷ steps d rest) ≡ step_of c d x ∷ steps d rest = ap (λ o. each_of o (λ d. step_of c d x ∷ steps d rest)) t.applies in
    let same : step_of c d x ∷ steps d rest ≡ step ∷ steps d rest = ap (λ s. s ∷ steps d rest) (sym t.is) in
    ap (λ j. (made ++ step ∷ []) ++ steps d (drop j events)) (add-one i)
    ∙ append_assoc made (step ∷ []) (steps d rest)
    ∙ ap (λ l. made ++ l) (sym (here ∙ next ∙ same))
    ∙ h

-- all events are made: there are no further steps
pub steps-end : (d : Config) (events : List Event) (i : ℕ) (made all : List Step) → length events ≤ i → made ++ steps d (drop i events) ≡ all → made ≡ all
steps-end d events i made all whole h = sym (append-nil made) ∙ ap (λ l. made ++ steps d l) (sym (drop_all i events whole)) ∙ h

-- a run that was followed to its end
pub followed-is : (start : Config) (sites : List (List ℕ)) (events : List Event) (last : Config) (all : Followed) (said : List (ℕ × Value))
    → run start events ≡ Some last → all.steps ≡ steps start events → said ≡ last.said → all.printed ≡ map (λ item. value_text sites item.1) said → IsFollowed start sites events all
followed-is start sites events last all said runs same heard printed = record {
  of = ap (map (λ (step : Step). step.event)) same ∙ events-of-steps start events (ap is_some runs);
  are = same;
  last = last;
  runs = runs;
  printed = printed ∙ ap (λ (l : List (ℕ × Value)). map (λ item. value_text sites item.1) l) heard;
}
