-- Runs in parts, and of one event more.
use Rattle.std.proofs.Common.{◌≡◌, ℕ, ◌+◌, ◌<◌, List, [], ◌∷◌, ◌++◌, take, get_or, length, Option, None, Some, refl, ap, ◌∙◌}
use Rattle.std.proofs.lemmas.List.{take_more}
use Rattle.np_syntax.specs.Options.{◌>>=◌}
use Rattle.np_syntax.specs.declared.event.Event.{Event}
use Rattle.np_calculus.specs.Config.{Config}
use Rattle.np_calculus.specs.Reductions.{apply, run}

-- ---- one list behind another

pub run-parts : (c : Config) (events later : List Event) → run c (events ++ later) ≡ (run c events >>= λ d. run d later)
run-parts c [] later = refl
run-parts c (e ∷ events) later = on (apply c e) (λ d. run-parts d events later)
  where
    on : (o : Option Config) → ((d : Config) → run d (events ++ later) ≡ (run d events >>= λ d. run d later)) → (o >>= λ d. run d (events ++ later)) ≡ ((o >>= λ d. run d events) >>= λ d. run d later)
    on None f = refl
    on (Some d) f = f d

pub run-behind : (c : Config) (events later : List Event) (d : Config) → run c events ≡ Some d → run c (events ++ later) ≡ run d later
run-behind c events later d reaches = run-parts c events later ∙ ap (λ o. o >>= λ x. run x later) reaches

pub none-behind : (c : Config) (events later : List Event) → run c events ≡ None → run c (events ++ later) ≡ None
none-behind c events later none = run-parts c events later ∙ ap (λ o. o >>= λ x. run x later) none

-- ---- one event more

pub one-more : (start : Config) (events : List Event) (index : ℕ) (e : Event) (c : Config) → index < length events → run start (take index events) ≡ Some c
    → run start (take (index + 1) events) ≡ (apply c (get_or events index e) >>= λ d. Some d)
one-more start events index e c inside reaches =
    ap (run start) (take_more events index e inside) ∙ run-behind start (take index events) (get_or events index e ∷ []) c reaches

-- the event at this place is enabled, and leads on
pub goes-on : (start : Config) (events : List Event) (index : ℕ) (e : Event) (c : Config) → index < length events → run start (take index events) ≡ Some c
    → (d : Config) → apply c (get_or events index e) ≡ Some d → run start (take (index + 1) events) ≡ Some d
goes-on start events index e c inside reaches d enabled = one-more start events index e c inside reaches ∙ ap (λ o. o >>= λ x. Some x) enabled
