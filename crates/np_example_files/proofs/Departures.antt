-- The first Depart behind the last arrival of an agent, from one place to the next.
use Rattle.std.proofs.Common.{◌≡◌, ◌≢◌, ℕ, ◌+◌, ◌<◌, ◌≤◌, ◌⊎◌, inl, inr, List, Option, Some, None, refl, sym, ap, subst, ◌∙◌, arith}
use Rattle.std.specs.Prelude.{slice_get, MatchOption}
use Rattle.std.proofs.lemmas.Option.{same_Some}
use Rattle.std.proofs.Math.Nat.{eq-or-lt_of_le}
use Rattle.np_syntax.specs.declared.value.Name.{Name}
use Rattle.np_syntax.specs.declared.event.Kind.TheVariants as kind
use Rattle.np_syntax.specs.declared.event.Event.{Event}
use Rattle.np_example_files.specs.Changes.{ArrivesBetween, FirstDeparture, HasNoDeparture, HasNoEarlyPlace, IsArrivalOf, IsEarlyPlace}

-- the event at a place is the one that stands there
pub same_kind : (events : List Event) (at k : ℕ) (event other : Event) → slice_get events at ≡ Some event → k ≡ at → slice_get events k ≡ Some other → event.kind ≡ other.kind
same_kind events at k event other here e there = ap (λ (x : Event). x.kind) (same_Some event other (sym here ∙ ap (slice_get events) (sym e) ∙ there))

pub same_event : (events : List Event) (at k : ℕ) (event other : Event) → slice_get events at ≡ Some event → k ≡ at → slice_get events k ≡ Some other → other ≡ event
same_event events at k event other here e there = same_Some other event (sym there ∙ ap (slice_get events) e ∙ here)

pub last_or_before : (k at : ℕ) → k < at + 1 → (k < at) ⊎ (k ≡ at)
last_or_before k at h = let le : k ≤ at = omega arith in elim (eq-or-lt_of_le le) [ inl same ↦ inr same | inr before ↦ inl before ]

later : (events : List Event) (agent : Name) (k at : ℕ) → ArrivesBetween events agent k at → ArrivesBetween events agent k (at + 1)
later events agent k at a = record { place = a.place; arrival = a.arrival; arrival_at = a.arrival_at; after = a.after; before = omega arith; arrives = a.arrives }

-- an arrival before the next place stands at this one or before it
arrived : (events : List Event) (agent : Name) (k at : ℕ) (event : Event) → slice_get events at ≡ Some event → (IsArrivalOf agent event → ⊥)
    → ArrivesBetween events agent k (at + 1) → ArrivesBetween events agent k at
arrived events agent k at event here other a =
    elim (last_or_before a.place at a.before) [
      | inl before ↦ record { place = a.place; arrival = a.arrival; arrival_at = a.arrival_at; after = a.after; before = before; arrives = a.arrives }
      | inr same ↦ absurd (other (subst (IsArrivalOf agent) (same_event events at a.place event a.arrival here same a.arrival_at) a.arrives))
    ]

pub after_other : (events : List Event) (agent : Name) (at : ℕ) (event : Event) (found : Option ℕ) → slice_get events at ≡ Some event
    → (IsArrivalOf agent event → ⊥) → (event.kind ≡ kind.Depart → found ≢ None) → FirstDeparture events agent at found → FirstDeparture events agent (at + 1) found
after_other events agent at event None here other full none = λ k o less there departs.
    elim (last_or_before k at less) [
      | inl before ↦ later events agent k at (none k o before there departs)
      | inr same ↦ absurd (full (same_kind events at k event o here same there ∙ departs) refl)
    ]
after_other events agent at event (Some early) here other full found = record {
  departure = found.departure;
  departure_at = found.departure_at;
  departs = found.departs;
  before = omega (arith, found.before);
  last = λ a. found.last (arrived events agent early at event here other a);
  first = found.first;
}

-- ---- the whole

pub early_found : (events : List Event) (place : ℕ) (arrival : Event) (found : Option ℕ) → slice_get events place ≡ Some arrival → arrival.kind ≡ kind.Arrive
    → FirstDeparture events arrival.actor place found → MatchOption found (HasNoEarlyPlace events place) (IsEarlyPlace events place)
early_found events place arrival None here arrives none = λ other there is k event.
    let same : arrival ≡ other = same_Some arrival other (sym here ∙ there) in
    subst (λ (x : Event). HasNoDeparture events x.actor place) same none k event
early_found events place arrival (Some early) here arrives found = record { arrival = arrival; arrival_at = here; arrives = arrives; departs = found }

pub not_early : (events : List Event) (place : ℕ) (event : Event) → slice_get events place ≡ Some event → (event.kind ≡ kind.Arrive → ⊥) → HasNoEarlyPlace events place
not_early events place event here other arrival there arrives = absurd (other (same_kind events place place event arrival here refl there ∙ arrives))
