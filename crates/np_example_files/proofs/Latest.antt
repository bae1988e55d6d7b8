-- The last event of an actor, from one place to the next.
use Rattle.std.proofs.Common.{◌≡◌, ◌≢◌, ℕ, ◌+◌, inl, inr, List, Option, Some, None, refl, sym, ap, subst, ◌∙◌, arith}
use Rattle.std.specs.Prelude.{slice_get, MatchOption}
use Rattle.std.proofs.lemmas.Option.{same_Some}
use Rattle.np_syntax.specs.declared.value.Name.{Name}
use Rattle.np_syntax.specs.declared.event.Kind.TheVariants as kind
use Rattle.np_syntax.specs.declared.event.Event.{Event}
use Rattle.np_example_files.specs.Changes.{HasNoneOf, HasNoSentPlace, IsLatest, IsSentPlace, Latest}
use Rattle.np_example_files.proofs.Departures.{last_or_before, same_event, same_kind}

pub here : (events : List Event) (actor : Name) (at : ℕ) (event : Event) → slice_get events at ≡ Some event → event.actor ≡ actor → IsLatest events actor (at + 1) at
here events actor at event there same =
    record { event = event; event_at = there; same = same; before = omega arith; last = λ k passed above below is. absurd (omega arith) }

-- the event at the place is of another actor
pub passed_other : (events : List Event) (actor : Name) (at : ℕ) (event : Event) (found : Option ℕ) → slice_get events at ≡ Some event → event.actor ≢ actor
    → Latest events actor at found → Latest events actor (at + 1) found
passed_other events actor at event None there other none = λ k o less is.
    elim (last_or_before k at less) [
      | inl before ↦ none k o before is
      | inr same ↦ λ e. other (sym (ap (λ (x : Event). x.actor) (same_event events at k event o there same is)) ∙ e)
    ]
passed_other events actor at event (Some early) there other found = record {
  event = found.event;
  event_at = found.event_at;
  same = found.same;
  before = omega (arith, found.before);
  last = λ k o above less is.
      elim (last_or_before k at less) [
        | inl before ↦ found.last k o above before is
        | inr same ↦ λ e. other (sym (ap (λ (x : Event). x.actor) (same_event events at k event o there same is)) ∙ e)
      ];
}

pub sent_found : (events : List Event) (place : ℕ) (landing : Event) (found : Option ℕ) → slice_get events place ≡ Some landing → landing.kind ≡ kind.Land
    → Latest events landing.actor place found → MatchOption found (HasNoSentPlace events place) (IsSentPlace events place)
sent_found events place landing None there lands none = λ other is of.
    let same : landing ≡ other = same_Some landing other (sym there ∙ is) in
    subst (λ (x : Event). HasNoneOf events x.actor place) same none
sent_found events place landing (Some early) there lands found = record { landing = landing; landing_at = there; lands = lands; sent = found }

pub not_sent : (events : List Event) (place : ℕ) (event : Event) → slice_get events place ≡ Some event → (event.kind ≡ kind.Land → ⊥) → HasNoSentPlace events place
not_sent events place event there other landing is lands = absurd (other (same_kind events place place event landing there refl is ∙ lands))
