-- Runs of the first events of a list.
use Rattle.std.proofs.Common.{◌≡◌, ℕ, suc, ◌+◌, ◌<◌, ◌≤◌, List, [], ◌∷◌, ◌++◌, take, drop, get_or, length, Option, None, Some, refl, sym, ap, ◌∙◌, arith, add-one, inl, inr, ◌⊎◌}
use Rattle.std.proofs.lemmas.Bool.{cases_order}
use Rattle.std.proofs.lemmas.List.{take-append-drop, take-take}
use Rattle.np_syntax.specs.Options.{◌>>=◌}
use Rattle.np_syntax.specs.declared.event.Event.{Event}
use Rattle.np_calculus.specs.Config.{Config}
use Rattle.np_calculus.specs.Reductions.{apply, run}
use Rattle.np_calculus.proofs.Runs.{none-behind, one-more}
use Rattle.np_serial.specs.Replays.{StopsAt, HasOneEnd}

-- ---- where an event is not enabled

-- the event at this place is not enabled
pub stops-here : (start : Config) (events : List Event) (index : ℕ) (e : Event) (c : Config) → index < length events → run start (take index events) ≡ Some c → apply c (get_or events index e) ≡ None
    → StopsAt start events index
stops-here start events index e c inside reaches refused = record {
  within = inside;
  before = (c, reaches);
  none = one-more start events index e c inside reaches ∙ ap (λ o. o >>= λ x. Some x) refused;
}

pub none-whole : (start : Config) (events : List Event) (index : ℕ) → StopsAt start events index → run start events ≡ None
none-whole start events index stops =
    ap (run start) (sym (take-append-drop (index + 1) events)) ∙ none-behind start (take (index + 1) events) (drop (index + 1) events) stops.none

-- ---- where events stop being a run

later-none : (start : Config) (events : List Event) (i j : ℕ) → i ≤ j → run start (take i events) ≡ None → run start (take j events) ≡ None
later-none start events i j order none =
    let front : take i events ++ drop i (take j events) ≡ take j events = ap (λ l. l ++ drop i (take j events)) (sym (take-take i j events order)) ∙ take-append-drop i (take j events) in
    ap (run start) (sym front) ∙ none-behind start (take i events) (drop i (take j events)) none

not-before : (start : Config) (events : List Event) (one other : ℕ) → StopsAt start events one → StopsAt start events other → one < other → ⊥
not-before start events one other first second order = never second.before.1 (later-none start events (one + 1) other (omega arith) first.none)
  where
    never : {o : Option Config} {c : Config} → o ≡ Some c → o ≡ None → ⊥
    never some none = cc

one-index : (start : Config) (events : List Event) (one other : ℕ) → StopsAt start events one → StopsAt start events other → one ≡ other
one-index start events one other first second = go (cases_order one other)
  where
    go : (one ≡ other) ⊎ ((one < other) ⊎ (other < one)) → one ≡ other
    go (inl same) = same
    go (inr (inl below)) = absurd (not-before start events one other first second below)
    go (inr (inr above)) = absurd (not-before start events other one second first above)

stop-of : (start : Config) (events : List Event) → run start events ≡ None → (index : ℕ) × StopsAt start events index
stop-of start [] h = cc
stop-of start (e ∷ events) h = go (apply start e) refl h (λ d. stop-of d events)
  where
    later : (d : Config) → apply start e ≡ Some d → (index : ℕ) → StopsAt d events index → StopsAt start (e ∷ events) (suc index)
    later d is index stops = record {
      within = omega (arith, stops.within);
      before = (stops.before.0, ap (λ o. o >>= λ x. run x (take index events)) is ∙ stops.before.1);
      none = rw add-one (ap (λ o. o >>= λ x. run x (take (suc index) events)) is ∙ rw add-one at stops.none);
    }

    go : (o : Option Config) → apply start e ≡ o → (o >>= λ d. run d events) ≡ None → ((d : Config) → run d events ≡ None → (index : ℕ) × StopsAt d events index) → (index : ℕ) × StopsAt start (e ∷ events) index
    go None is h rest = (0, record { within = omega arith; before = (start, refl); none = ap (λ o. o >>= λ x. run x []) is })
    go (Some d) is h rest = let found = rest d h in (suc found.0, later d is found.0 found.1)

pub one-end : (start : Config) (events : List Event) → HasOneEnd start events
one-end start events = record {
  stops = stop-of start events;
  none = none-whole start events;
  index = one-index start events;
}
